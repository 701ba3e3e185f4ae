use Rattle.std.proofs.Common.{sym, ◌∙◌}
use Rattle.edit_ops.proofs.RecordLemmas.{one_spelling}
use Rattle.edit_log.proofs.copies.operation_of.Goals as goal

pub returns-in-Ok : goal.returns-in-Ok
returns-in-Ok c op has spells = one_spelling c.in-Ok.op op c.in-Ok.ensures.read.0 has (sym c.in-Ok.ensures.read.1 ∙ spells)
