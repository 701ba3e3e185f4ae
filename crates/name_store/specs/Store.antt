-- The table of the namesystem over its edit log, and the operations that the log holds.
use Rattle.std.specs.Prelude.{◌≡◌, ℕ, ◌*◌, ◌^◌, ◌<◌, Bool, true, false, is_some, List, [], ◌∷◌, ◌++◌, Option, Some, None, IfSome, IsTrue}
use Rattle.std.specs.List.{All}
use Rattle.hk_base.specs.Disk.{DiskState, Tells, RunOn, LeavesOnly}
use Rattle.hk_base.specs.Faults.{Rose}
use Rattle.frame_log.specs.Opens.{OpensLog}
use Rattle.frame_log.specs.declared.fault.StartFault.{StartFault}
use Rattle.edit_ops.specs.declared.ops.EditOp.{EditOp}
use Rattle.log_kinds.specs.Kinds.{IsLog, IsNoLog, Nothing}
use Rattle.log_kinds.specs.Kinds as kinds
pub use Rattle.log_kinds.specs.Kinds.{Not_a_log, Not_of_its_kind, Opening, Recovered}
use Rattle.edit_log.specs.Log.{EditLogState}
use Rattle.edit_log.specs.Log as edits
use Rattle.name_store.specs.Table.{IsNameTable, NameTable, Replayed, after_table, allows, is_fresh, kept_op, name_kind, next_opening, nothing_logged, settled_ops, settled_table, settled_used}
pub use Rattle.name_store.specs.Table.{is_opening}
use Rattle.name_store.specs.Replay.{AllBelow, Applies, name_replay}

-- its edit log with the pending operation, and the table
pub record StoreState : Type 0 where
  pub log : EditLogState
  pub table : NameTable

abbrev pub made_with : StoreState → List ℕ → Replayed
made_with store used = record { table = store.table; used = used }

-- The store holds these acknowledged operations on the disk: they make its table, they used these ids, and they are the
-- records of its log, apart from the pending one, which applies after them.
pub record IsNameStoreOf (disk : DiskState) (store : StoreState) (used : List ℕ) (ops : List EditOp) : Type 0 where
  pub log : edits.IsEditLogOf disk store.log ops
  pub makes : name_replay nothing_logged ops ≡ Some (made_with store used)
  pub waits : Applies (made_with store used) store.log.pending

-- a log of these operations, with one more or without it, now and if its end gate byte is read as 1; that one can be written
abbrev pub IsWritten : List EditOp → EditOp → List ℕ → Type 0
IsWritten = kinds.IsWritten name_kind

-- the file is a log of these operations, each of which applies, and they make `made`
abbrev pub IsNameLog : List ℕ → List EditOp → Replayed → Type 0
IsNameLog = IsLog name_kind

-- The file is a log, and the record whose gate is at this offset is no operation that applies after the earlier ones.
abbrev pub IsNoNameLog : List ℕ → ℕ → Type 0
IsNoNameLog = IsNoLog name_kind

-- why a start answers Damaged with this offset
abbrev pub IsDamagedAt : List ℕ → ℕ → Type 0
IsDamagedAt = kinds.IsDamagedAt name_kind

-- the last opening is recorded
pub record SpentNames (bytes : List ℕ) : Type 0 where
  pub ops : List EditOp
  pub made : Replayed
  pub log : IsNameLog bytes ops made
  pub last : made.table.opening ≡ 4294967295

-- what a crash leaves of the file found, since a start synced it: what recovering leaves, or the log with the record of the
-- new opening or without it
abbrev pub IsLeftByStart : List ℕ → List ℕ → Type 0
IsLeftByStart = kinds.IsLeftByStart name_kind

-- A start opens the edit log, or fails.
abbrev pub OpensNames : DiskState → DiskState → (StartFault → Type 0) → Type 0
OpensNames = OpensLog 1 IsDamagedAt SpentNames IsLeftByStart

-- what a crash may leave of a log: these operations, with one more or without it, now and if the end gate byte is read as 1
abbrev pub IsLogOf : List EditOp → Option EditOp → List ℕ → Type 0
IsLogOf = kinds.IsLogOf name_kind

-- An edit log that a run may start from: its operations make `made`, and one more, which applies, may follow them.
abbrev pub IsSoundLog : List ℕ → List EditOp → Option EditOp → Replayed → Type 0
IsSoundLog = kinds.IsSoundLog name_kind

-- What a crash may leave of the log of these operations, which make `made`, while one is pending, beside what `own` says may be
-- written after the settled log.
abbrev pub IsLeftOf : Replayed → Option EditOp → (Bool → EditOp → Type 0) → List EditOp → List ℕ → Type 0
IsLeftOf = kinds.IsLeftOf name_kind

-- operations that may be written: none, and an opening

abbrev pub NothingMore : Bool → EditOp → Type 0
NothingMore = Nothing name_kind

abbrev pub AnOpening : Bool → EditOp → Type 0
AnOpening = kinds.AnOpening name_kind

-- What a start found in the log, and what the log holds after it: the operations found, and the next opening.
pub record StartedLog (old new : DiskState) (store : StoreState) (found : NameTable) : Type 0 where
  pub ops : List EditOp
  pub used : List ℕ
  pub is : IsNameLog (old.reads 1) ops (record { table = found; used = used })
  pub stands : IsNameStoreOf new store used (ops ++ next_opening found ∷ [])
  -- the ids used are of earlier openings
  pub earlier : AllBelow (store.table.opening * 2 ^ 32) used

-- A start found a table in the log, and added the next opening after its operations.
pub record Started (old new : DiskState) (store : StoreState) : Type 0 where
  pub found : NameTable
  pub table : store.table ≡ after_table found (next_opening found)
  pub settled : store.log.pending ≡ None
  -- the ids of rows are of earlier openings
  pub earlier : All (λ e. e.row.id < store.table.opening * 2 ^ 32) store.table.rows
  pub log : Tells old → StartedLog old new store found

-- A log during the commit of an operation: if the store held a list of acknowledged operations, among whose ids the operation's is
-- not, it holds that list after it, with the operation if it was written.
pub record CommitsOperation (old new : DiskState) (store : StoreState) (op : EditOp) (written : Bool) (store' : StoreState) : Type 0 where
  pub stands : Tells old → (used : List ℕ) (ops : List EditOp) → IsNameStoreOf old store used ops → IsTrue (is_fresh used op)
      → IsNameStoreOf new store' (settled_used written (Some op) used) (ops ++ settled_ops written (Some op))
  -- a crash at any moment leaves the earlier operations, with the new one or without
  pub moments : Tells old → (used : List ℕ) (ops : List EditOp) → IsNameStoreOf old store used ops → LeavesOnly 1 old new (IsWritten ops op)
  pub run : RunOn 1 old new

-- The pending operation was settled: kept or dropped. It is returned if it was kept.
pub record SettlesNames (old new : DiskState) (store : StoreState) (answer : Option EditOp) (store' : StoreState) : Type 0 where
  pub kept : Bool
  pub answer_is : answer ≡ kept_op kept store.log.pending
  pub none : store'.log.pending ≡ None
  pub table : store'.table ≡ settled_table kept store.log.pending store.table
  pub stands : Tells old → (used : List ℕ) (ops : List EditOp) → IsNameStoreOf old store used ops
      → IsNameStoreOf new store' (settled_used kept store.log.pending used) (ops ++ settled_ops kept store.log.pending)

-- The disk failed, and the operation is still pending.
pub record LeavesUnsettled (old new : DiskState) (store store' : StoreState) : Type 0 where
  pub waits : is_some store.log.pending ≡ true
  pub failed : Rose old.faults new.faults
  pub same : store' ≡ store
  pub stands : Tells old → (used : List ℕ) (ops : List EditOp) → IsNameStoreOf old store used ops → IsNameStoreOf new store' used ops

-- What is true of a pending operation: it is allowed, and it is not an opening.
pub record IsPendingOperation (t : NameTable) (waiting : EditOp) : Type 0 where
  pub allowed : allows t waiting ≡ true
  pub no_opening : is_opening waiting ≡ false

pub record IsStore (store : StoreState) : Type 0 where
  pub opened : 0 < store.table.opening
  pub table : IsNameTable store.table
  pub waits : IfSome store.log.pending (IsPendingOperation store.table)
  -- the log is that of file 1
  pub file : store.log.log.file ≡ 1
