-- A service that was started on a disk runs on it.
use Rattle.std.proofs.Common.{List, [], ◌∷◌, ◌++◌, sym, ◌∙◌}
use Rattle.hk_base.specs.Disk.{DiskState, RunOn}
use Rattle.kms_acls.specs.Agreement.{AreListsOf}
use Rattle.kms_core.specs.Service.{Starts}
use Rattle.kms_core.specs.Users.{RunningKms, running}
use Rattle.kms_store.specs.Store.{next_opening}
use Rattle.prop_text.specs.declared.lines.PropLine.{PropLine}
use Rattle.kms_cell.specs.Views.{RunsOn}

pub runs_after_start : (old new : DiskState) (kms : RunningKms) (lines : List PropLine) → Starts old new (running kms) → RunOn 0 old new → AreListsOf kms.acls lines → RunsOn new kms
runs_after_start old new kms lines starts run lists = record {
  lines = lines;
  lists = lists;
  log = λ tells. (let found = starts.log (sym run.tells ∙ tells) in (found.0 ++ next_opening starts.table ∷ [], found.2));
}
