use Rattle.server_command.proofs.ServeLemmas.{serves_under}
use Rattle.server_command.proofs.serve.run_serve.Goals as goal

pub returns-clause-serves : goal.returns-clause-serves
returns-clause-serves g c =
    serves_under _ _ _ _ _ _ _ _ (g.W.Words.to_come c.args.rand.now) (g.W.Words.to_come c.generator-words.new.rand) (g.W.Words.to_come c.generator.new.rand) (g.W.Words.to_come c.generator-2.new.rand) _ _ _ _ _ _ _
    _ c.generator-words.result c.generator.result c.generator-2.result c.run_server-end.result c.in-Ok.ensures.read
    c.generator-words.ensures.seed c.generator-words.ensures.rest c.generator.ensures.seed c.generator.ensures.rest c.generator-2.ensures.seed c.generator-2.ensures.rest
    c.run_server-end.ensures.ends c.report_run.ensures.reports
