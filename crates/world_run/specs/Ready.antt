-- What holds of a world between two events.
use Rattle.std.specs.Prelude.{List}
use Rattle.hk_base.specs.Disk.{DiskState, Tells}
use Rattle.kms_acls.specs.Agreement.{AreListsOf}
use Rattle.prop_text.specs.declared.lines.PropLine.{PropLine}
use Rattle.world_run.specs.Acknowledged.{Acknowledged, HoldsLogs}
use Rattle.world_run.specs.World.{RunningWorld}

-- It judges by the lists of these lines, and its disk holds both logs, if the disk is known.
pub record IsReady (lines : List PropLine) (disk : DiskState) (r : RunningWorld) : Type 0 where
  pub lists : AreListsOf r.keys.acls lines
  pub stands : Tells disk → (done : Acknowledged) × HoldsLogs disk r done
