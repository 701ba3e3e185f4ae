use Rattle.std.proofs.Common.{arith, rules}
use Rattle.kms_core.proofs.DrawLemmas.{one_more_key, one_more_lost}
use Rattle.kms_core.proofs.drawing.draw_edeks.Goals as goal

pub returns-in_err-push : goal.returns-in_err-push
returns-in_err-push g c =
    let lost = one_more_lost c.args.current.now (g.W.Words.to_come c.args.words.now) (g.W.Words.to_come c.loop.words) (g.W.Words.to_come c.draw_edek-key.new.words)
    c.loop.counter c.args.count c.args.others c.loop.keys c.loop.invariant c.draw_edek-key.ensures.rest (omega arith) in
    search rules

pub loop-preserved : goal.loop-preserved
loop-preserved g c =
    one_more_key c.args.current.now (g.W.Words.to_come c.args.words.now) (g.W.Words.to_come c.loop.words) (g.W.Words.to_come c.draw_edek-key.new.words)
    c.loop.counter c.args.others c.loop.keys _ c.draw_edek-key.result c.loop.invariant c.draw_edek-key.ensures.key c.draw_edek-key.ensures.rest c.in_ok-push.ensures.ok
