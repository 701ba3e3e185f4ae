-- What a server that has ended keeps of files in encryption zones.
use Rattle.std.specs.Prelude.{◌≡◌, ℕ, IsTrue, Bool, List}
use Rattle.hk_base.specs.Disk.{DiskState, Image}
use Rattle.frame_log.specs.declared.fault.StartFault.{StartFault}
use Rattle.prop_text.specs.declared.props.Props.{Props}
use Rattle.kms_core.specs.State.{settled}
use Rattle.name_core.specs.State.{service_of, settled as settled_names}
use Rattle.kms_cell.specs.Views.{KmsView}
use Rattle.name_history.specs.Entries.{NameEntry}
use Rattle.name_history.specs.Views.{NameView}
use Rattle.world_run.specs.Ledger.{Past}
use Rattle.world_run.specs.Linked.{SoundFiles}
use Rattle.thread_laws.specs.Promise.{KnownAfter}
use Rattle.thread_laws.specs.Worlds.{keys_of_view}
use Rattle.server_parts.specs.Doors.{DoorState}
use Rattle.server_parts.specs.Yards.{YardState}
use Rattle.cell_server.specs.Connections.{Serving}
use Rattle.cell_server.specs.declared.ends.ServeEnd.{ServeEnd}
use Rattle.server_run.specs.Opening.{NoneOpened}
use Rattle.server_run.specs.Runs.{RanServer}
use Rattle.world_run.specs.Kept.{FilesKept, ImageKept, IsKnownLater}

-- What is known when a server has ended: what was known before, and what the finishes in the history of its namesystem entered. With it the
-- promise on files is kept in the last state of both services, in the two files of the yard as they read, and in each two files that a crash
-- may leave of the disks as they were given back. Files that keep it are sound, so the next run may start from them.
pub record ServerKept {D W : Type 0} (state : D → DiskState) (past : Past) (new : YardState) (n : NameView D W) (entries : List (NameEntry D W)) (last_k : KmsView D W) (last_n : NameView D W) : Type 0 where
  pub later : Past
  pub known : KnownAfter n entries past later
  pub grows : IsKnownLater past later
  pub files : (kept_keys kept_names : Bool) → FilesKept later (settled kept_keys (keys_of_view last_k)).table.rows (settled_names kept_names (service_of last_n.names)).table
  pub again : ImageKept later new.reads
  pub images : (c : Image) → (state last_k.disk).leaves 0 (c 0) → (state last_n.disk).leaves 1 (c 1) → ImageKept later c

module _ {D W I O : Type 0} (state : D → DiskState) (to_come : W → ℕ → ℕ) (serves : Serving I O D W) (conns : ℕ) (old new : YardState) (door door' : DoorState I O) where
  -- However the run of a server ended that served in cells: if the yard tells, and its files were sound with what was known before, the promise
  -- on files is kept.
  abbrev pub ServersKeepFiles : Type 0
  ServersKeepFiles =
      (first second : ℕ → ℕ) (props : Props) (words : W) (port : ℕ) (end : ServeEnd) (failed : Bool) (ran : RanServer state to_come serves first second props words port conns old new door door' end failed)
      → IsTrue old.tells → (past : Past) → SoundFiles past old.reads → ServerKept state past new ran.n ran.ran.names_closed.all ran.last_k ran.last_n

-- If a log couldn't be opened, the promise on files is kept with what was known before.
abbrev pub UnopenedKeepFiles : YardState → YardState → Type 0
UnopenedKeepFiles old new = (file : ℕ) (fault : StartFault) → NoneOpened old new file fault → IsTrue old.tells → (past : Past) → SoundFiles past old.reads → ImageKept past new.reads
