-- The files of both services, before and after their histories.
use Rattle.std.specs.Prelude.{◌≡◌, ◌⊎◌, ℕ, List, [], ◌++◌, Some}
use Rattle.hk_base.specs.Disk.{DiskState, Image, Tells}
use Rattle.edit_ops.specs.declared.ops.EditOp.{EditOp}
use Rattle.eek_queues.specs.Queues.{AllQueues}
use Rattle.key_rows.specs.declared.rows.KeyCommand.{KeyCommand}
use Rattle.key_rows.specs.Table.{Table}
use Rattle.kms_core.specs.State.{service_after_opening}
use Rattle.kms_store.specs.Store.{IsKeyLog, IsKeyStoreOf, IsLeftByStart}
use Rattle.name_core.specs.State.{IsNamesystemOf, service_of, started}
use Rattle.name_store.specs.Store.{IsLeftByStart as IsLeftByNameStart, IsNameLog}
use Rattle.name_store.specs.Table.{Replayed}
use Rattle.hist_cell.specs.History.{Legal, state_after}
use Rattle.kms_cell.specs.Entries.{KmsEntry}
use Rattle.kms_cell.specs.Steps.{KmsSteps}
use Rattle.kms_cell.specs.Tickets.{KmsAllows}
use Rattle.kms_cell.specs.Views.{KmsView}
use Rattle.name_history.specs.Entries.{NameEntry}
use Rattle.name_history.specs.Views.{NameView}
use Rattle.world_run.specs.Ledger.{Past, drawn_before}
use Rattle.world_run.specs.Linked.{ServicesFit, SoundFiles}
use Rattle.world_run.specs.World.{none_kept}
use Rattle.thread_laws.specs.Promise.{BeginsLinked, KnownAfter, StaysKept}
use Rattle.thread_laws.specs.Serving.{NamesLegal}
use Rattle.thread_laws.specs.Worlds.{keys_of_view, world_with}

-- A start, even if it fails, leaves sound files of sound ones: each as it was, or as a start leaves it.
abbrev pub StartsLeaveSound : Type 0
StartsLeaveSound =
    (past : Past) (c left : Image) → SoundFiles past c → (left 0 ≡ c 0) ⊎ IsLeftByStart (c 0) (left 0) → (left 1 ≡ c 1) ⊎ IsLeftByNameStart (c 1) (left 1) → SoundFiles past left

-- Both services were started from these two files, and the namesystem keeps a new pass of the keys, which has seen nothing.
pub record BeginsFrom {D W : Type 0} (c : Image) (k : KmsView D W) (v : NameView D W) : Type 0 where
  pub commands : List KeyCommand
  pub table : Table
  pub key_log : IsKeyLog (c 0) commands table
  pub ops : List EditOp
  pub made : Replayed
  pub edit_log : IsNameLog (c 1) ops made
  pub queues : AllQueues
  pub keys : keys_of_view k ≡ service_after_opening queues table
  pub batch : ℕ
  pub names : service_of v.names ≡ started batch made.table
  pub fit : ServicesFit (world_with (keys_of_view k) (service_of v.names) none_kept)
  pub start : v.keys.start ≡ Some k
  pub seen : v.keys.seen ≡ []
  pub fronts : v.fronts ≡ []

-- Histories that begin from sound files begin linked.
abbrev pub SoundFilesBeginLinked : Type 0 → Type 0 → Type 0
SoundFilesBeginLinked D W = (past : Past) (c : Image) (k : KmsView D W) (v : NameView D W) → SoundFiles past c → BeginsFrom c k v → BeginsLinked k v (drawn_before past)

-- the file reads so, or a crash may leave it so
abbrev pub IsFileOf : DiskState → ℕ → List ℕ → Type 0
IsFileOf d file bytes = (bytes ≡ d.reads file) ⊎ d.leaves file bytes

-- Both services are on their disks, each with its log, and these are the two files.
pub record IsLeftByServices {D W : Type 0} (state : D → DiskState) (k : KmsView D W) (v : NameView D W) (c : Image) : Type 0 where
  pub commands : List KeyCommand
  pub key_log : IsKeyStoreOf (state k.disk) k.kms.store commands
  pub key_file : k.kms.store.log.file ≡ 0
  pub keys : IsFileOf (state k.disk) 0 (c 0)
  pub ops : List EditOp
  pub edit_log : IsNamesystemOf (state v.disk) v.names ops
  pub edit_file : v.names.store.log.log.file ≡ 1
  pub names : IsFileOf (state v.disk) 1 (c 1)

-- Whatever the keys have done after what the kept pass has seen, the files between two calls are sound, as they read and as a crash leaves them.
abbrev pub LeavesSound : {D W : Type 0} → (D → DiskState) → (W → ℕ → ℕ) → KmsView D W → NameView D W → Past → Type 0
LeavesSound {D = D} {W = W} state to_come k last known =
    (more : List (KmsEntry D W)) → Legal (KmsSteps {D = D} {W = W} state to_come) (KmsAllows {S = KmsView D W}) k (last.keys.seen ++ more)
    → (c : Image) → IsLeftByServices state (state_after k (last.keys.seen ++ more)) last c → SoundFiles known c

-- What is known after the histories: the promise on files is kept with it, and the next run may start from the files with it.
pub record KeepsServedFiles {D W : Type 0} (state : D → DiskState) (to_come : W → ℕ → ℕ) (past : Past) (k : KmsView D W) (v : NameView D W) (es : List (NameEntry D W)) : Type 0 where
  pub last : Past
  pub known : KnownAfter v es past last
  pub kept : StaysKept state to_come k (state_after v es) last
  pub sound : LeavesSound state to_come k (state_after v es) last

-- Every legal history of the namesystem that begins from sound files keeps the promise, and leaves sound files, if the disk of the keys
-- tells its content.
abbrev pub HistoriesKeepFiles : {D W : Type 0} → (D → DiskState) → (W → ℕ → ℕ) → Type 0
HistoriesKeepFiles {D = D} {W = W} state to_come =
    (past : Past) (c : Image) (k : KmsView D W) (v : NameView D W) (es : List (NameEntry D W))
    → SoundFiles past c → BeginsFrom c k v → Tells (state k.disk) → NamesLegal state to_come v es → KeepsServedFiles state to_come past k v es
