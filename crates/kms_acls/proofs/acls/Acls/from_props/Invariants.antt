use Rattle.std.proofs.Common.{take}
use Rattle.kms_acls.specs.Agreement.{AreListsOf}
use Rattle.kms_acls.proofs.acls.Acls.from_props.Given as goal

abbrev pub invariant-loop-line : goal.invariant-loop-line
invariant-loop-line l = AreListsOf l.acls (take l.line-index l.line-items)
