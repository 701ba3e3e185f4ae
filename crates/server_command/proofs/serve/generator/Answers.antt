use Rattle.server_command.proofs.SeedLemmas.{after_eight, seeded}
use Rattle.server_command.proofs.serve.generator.Goals as goal

pub returns-clause-seed : goal.returns-clause-seed
returns-clause-seed g c =
    seeded (g.W.Words.to_come c.args.rand.now) (g.W.Words.to_come c.word.new.self) (g.W.Words.to_come c.word-2.new.self) (g.W.Words.to_come c.word-3.new.self) (g.W.Words.to_come c.word-4.new.self) (g.W.Words.to_come c.word-5.new.self) (g.W.Words.to_come c.word-6.new.self) (g.W.Words.to_come c.word-7.new.self)
    _ _ _ _ _ _ _ _ c.word.ensures.rest c.word-2.ensures.rest c.word-3.ensures.rest c.word-4.ensures.rest c.word-5.ensures.rest c.word-6.ensures.rest c.word-7.ensures.rest
    c.word.ensures.word c.word-2.ensures.word c.word-3.ensures.word c.word-4.ensures.word c.word-5.ensures.word c.word-6.ensures.word c.word-7.ensures.word c.word-8.ensures.word _ c.from_words.ensures

pub returns-clause-rest : goal.returns-clause-rest
returns-clause-rest g c =
    after_eight (g.W.Words.to_come c.args.rand.now) (g.W.Words.to_come c.word.new.self) (g.W.Words.to_come c.word-2.new.self) (g.W.Words.to_come c.word-3.new.self) (g.W.Words.to_come c.word-4.new.self) (g.W.Words.to_come c.word-5.new.self) (g.W.Words.to_come c.word-6.new.self) (g.W.Words.to_come c.word-7.new.self) (g.W.Words.to_come c.word-8.new.self)
    c.word.ensures.rest c.word-2.ensures.rest c.word-3.ensures.rest c.word-4.ensures.rest c.word-5.ensures.rest c.word-6.ensures.rest c.word-7.ensures.rest c.word-8.ensures.rest
