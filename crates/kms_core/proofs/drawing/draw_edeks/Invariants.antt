use Rattle.kms_core.specs.Steps.{DrewKeys}
use Rattle.kms_core.proofs.drawing.draw_edeks.Given as goal

abbrev pub invariant-loop : goal.invariant-loop
invariant-loop g l = DrewKeys l.current (g.W.Words.to_come l.fn.words) (g.W.Words.to_come l.words) l.counter l.fn.others l.keys
