use Rattle.kms_cell.proofs.FillLemmas.{Filling}
use Rattle.kms_cell.proofs.filling.fill_keys.Given as goal

abbrev pub invariant-loop-kept : goal.invariant-loop-kept
invariant-loop-kept g l = Filling g.D.Disk.state g.W.Words.to_come l.ticket (g.V.Words.to_come l.fn.words) (g.V.Words.to_come l.words) l.fn.pass l.kept l.pass
