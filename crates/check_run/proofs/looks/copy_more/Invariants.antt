use Rattle.std.proofs.Common.{◌≡◌, ◌-◌}
use Rattle.disk_kinds.specs.Plain.{contents}
use Rattle.check_run.proofs.LookLemmas.{CopiedUpTo}
use Rattle.check_run.proofs.looks.copy_more.Given as goal

abbrev pub invariant-pieces : goal.invariant-pieces
invariant-pieces g l = record {
  so_far : CopiedUpTo l.file l.at l.size (g.D.Disk.state l.fn.disk) (g.D.Disk.state l.disk) (contents l.copy l.file);
  other : contents l.copy (1 - l.file) ≡ contents l.fn.copy (1 - l.file);
}

abbrev pub decreases-pieces : goal.decreases-pieces
decreases-pieces g l = l.size - l.at
