-- The files of both services once their cells are closed.
use Rattle.std.specs.Prelude.{◌≡◌, ℕ, Bool, List, Some}
use Rattle.hk_base.specs.Disk.{DiskState, Image, Tells}
use Rattle.kms_core.specs.State.{settled}
use Rattle.name_core.specs.State.{service_of, settled as settled_names}
use Rattle.hist_cell.specs.History.{Closes, Meets}
use Rattle.kms_cell.specs.Entries.{KmsKnown}
use Rattle.kms_cell.specs.Steps.{KmsSteps}
use Rattle.kms_cell.specs.Tickets.{KmsAllows}
use Rattle.kms_cell.specs.Views.{KmsView}
use Rattle.name_history.specs.Asked.{NameAllows}
use Rattle.name_history.specs.Entries.{NameEntry, NameKnown}
use Rattle.name_history.specs.Steps.{NameSteps}
use Rattle.name_history.specs.Views.{NameView}
use Rattle.world_run.specs.Kept.{FilesKept}
use Rattle.world_run.specs.Ledger.{Past}
use Rattle.world_run.specs.Linked.{SoundFiles}
use Rattle.thread_laws.specs.Files.{BeginsFrom, IsLeftByServices}
use Rattle.thread_laws.specs.Promise.{KnownAfter}
use Rattle.thread_laws.specs.Worlds.{keys_of_view}

-- Both cells were closed in these states of the services: first that of the namesystem, then its kept pass was met into the closing pass of
-- the keys, and then that of the keys.
pub record AreClosed {D W : Type 0} (state : D → DiskState) (to_come : W → ℕ → ℕ) (v : NameView D W) (last_k : KmsView D W) (last_v : NameView D W) : Type 0 where
  pub names : NameKnown D W
  pub names_start : names.start ≡ Some v
  pub names_closed : Closes (NameSteps {D = D} {W = W} state to_come) (NameAllows {S = NameView D W}) names last_v
  pub keys : KmsKnown D W
  pub met : KmsKnown D W
  pub kept_met : Meets keys last_v.keys met
  pub keys_closed : Closes (KmsSteps {D = D} {W = W} state to_come) (KmsAllows {S = KmsView D W}) met last_k

-- What is known after these entries of the namesystem: the promise on files is kept with it in the last states, and a crash leaves sound files.
pub record KeptByCells {D W : Type 0} (state : D → DiskState) (past : Past) (v : NameView D W) (es : List (NameEntry D W)) (last_k : KmsView D W) (last_v : NameView D W) : Type 0 where
  pub last : Past
  pub known : KnownAfter v es past last
  pub kept : (kept_keys kept_names : Bool) → FilesKept last (settled kept_keys (keys_of_view last_k)).table.rows (settled_names kept_names (service_of last_v.names)).table
  pub sound : (c : Image) → IsLeftByServices state last_k last_v c → SoundFiles last c

-- Cells that were opened on sound files keep the promise on zone files until they are closed, if the disk of the keys tells its content.
abbrev pub ClosedCellsKeepFiles : {D W : Type 0} → (D → DiskState) → (W → ℕ → ℕ) → Type 0
ClosedCellsKeepFiles {D = D} {W = W} state to_come =
    (past : Past) (c : Image) (k : KmsView D W) (v : NameView D W) (last_k : KmsView D W) (last_v : NameView D W)
    → SoundFiles past c → BeginsFrom c k v → Tells (state k.disk) → (a : AreClosed state to_come v last_k last_v) → KeptByCells state past v a.names_closed.all last_k last_v
