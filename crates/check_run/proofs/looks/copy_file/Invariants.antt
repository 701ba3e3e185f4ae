use Rattle.std.proofs.Common.{◌≡◌, ◌-◌}
use Rattle.disk_kinds.specs.Plain.{contents}
use Rattle.check_run.specs.Looks.{IsWholeCopy, OnlyLooks}
use Rattle.check_run.proofs.looks.copy_file.Given as goal

abbrev pub invariant-rounds : goal.invariant-rounds
invariant-rounds g l = record {
  looks : OnlyLooks (g.D.Disk.state l.fn.disk) (g.D.Disk.state l.disk);
  copied : IsWholeCopy (g.D.Disk.state l.fn.disk) l.file l.at (contents l.copy l.file);
  other : contents l.copy (1 - l.file) ≡ contents l.fn.copy (1 - l.file);
}
