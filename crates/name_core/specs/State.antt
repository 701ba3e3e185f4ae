-- The namesystem in an opening.
use Rattle.std.specs.Prelude.{◌≡◌, ℕ, ◌+◌, ◌*◌, ◌^◌, ◌<◌, ◌≤◌, ⊤, Bool, true, false, not, ◌&&◌, ◌||◌, ◌==◌, nat_le, List, [], ◌∷◌, Option, None, Some, IfSome, IsTrue, if◌then◌else◌}
use Rattle.std.specs.List.{All, AllByRecursion, find, list_any}
use Rattle.std.specs.Option.{option_map_or}
use Rattle.hk_base.specs.Disk.{DiskState}
use Rattle.inode_tree.specs.Rows.{Entry, entry_of}
use Rattle.edit_ops.specs.declared.ops.EditOp.{EditOp}
use Rattle.edit_ops.specs.declared.ops.EditOp.TheVariants as op
use Rattle.name_store.specs.Causes.{has_most_rows}
use Rattle.name_store.specs.Table.{IsNameTable, NameTable, after_table, is_among, next_opening, settled_table, uses}
use Rattle.name_store.specs.Replay.{AllBelow}
use Rattle.name_store.specs.Store.{IsPendingOperation, StoreState}
use Rattle.name_store.specs.Store as store
use Rattle.reenc_walk.specs.declared.batches.WalkedBatch.{WalkedBatch}
use Rattle.reenc_walk.specs.declared.sent.Sent.{Sent}
use Rattle.reenc_walk.specs.Walks.{WalkState, retire}
use Rattle.name_core.specs.declared.asks.OpenAsk.{OpenAsk}

-- The table, the counter of the next id, the open asks in the order of their ids, the walks that have taken a batch, the files of the
-- batch of the last update that was written, and the number of files in a batch. A pending update retires the batch of these files.
pub record NameState : Type 0 where
  pub table : NameTable
  pub next : ℕ
  pub asks : List OpenAsk
  pub walks : List WalkState
  pub updating : Option (List Sent)
  pub batch : ℕ

-- an id is the opening and, below it, the counter
abbrev pub next_id : NameState → ℕ
next_id s = s.table.opening * 2 ^ 32 + s.next

-- each counter of the opening is used
abbrev pub is_spent : NameState → Bool
is_spent s = nat_le (2 ^ 32) s.next

-- there is no room for one more row, or no id for it
abbrev pub is_full : NameState → Bool
is_full s = has_most_rows s.table.rows || is_spent s

-- the walks

abbrev pub is_walk_of : ℕ → WalkState → Bool
is_walk_of session w = w.session == session

abbrev pub walk_under : List WalkState → ℕ → Option WalkState
walk_under walks session = find (is_walk_of session) walks

-- the walks with another state of one, or with one more
abbrev pub with_walk : WalkState → List WalkState → List WalkState
with_walk w [] = w ∷ []
with_walk w (x ∷ xs) = if is_walk_of w.session x then w ∷ xs else x ∷ with_walk w xs

-- the walks after the batch of the session that has sent these files is retired
abbrev pub retired_under : ℕ → List Sent → List WalkState → List WalkState
retired_under session sent walks = option_map_or (λ w. with_walk (retire sent w) walks) (walk_under walks session) walks

abbrev pub retired_by : Option (List Sent) → ℕ → List WalkState → List WalkState
retired_by None session walks = walks
retired_by (Some sent) session walks = retired_under session sent walks

-- an update retires its batch, which has sent these files
abbrev pub walks_after : Option (List Sent) → EditOp → List WalkState → List WalkState
walks_after sent (op.Update session failed mark files) walks = retired_by sent session walks
walks_after sent _ walks = walks

-- the walks after the pending operation was settled: kept or dropped
abbrev pub settled_walks : Bool → Option EditOp → Option (List Sent) → List WalkState → List WalkState
settled_walks kept None sent walks = walks
settled_walks true (Some op) sent walks = walks_after sent op walks
settled_walks false (Some op) sent walks = walks

-- no file comes twice
abbrev pub sent_once : List Sent → Bool
sent_once [] = true
sent_once (x ∷ xs) = not (list_any (λ y. y.id == x.id) xs) && sent_once xs

abbrev pub BatchesOnce : List WalkedBatch → Type 0
BatchesOnce batches = AllByRecursion (λ (b : WalkedBatch). IsTrue (sent_once b.sent)) batches

-- no batch has a file twice
abbrev pub WalksOnce : List WalkState → Type 0
WalksOnce walks = AllByRecursion (λ (w : WalkState). BatchesOnce w.batches) walks

-- the state after an operation took effect
abbrev pub took : NameState → EditOp → NameState
took s op = record s { table = after_table s.table op; walks = walks_after s.updating op s.walks }

-- the namesystem over a disk: its state, and the operation whose record may or may not be on the disk
pub record NameService : Type 0 where
  pub names : NameState
  pub pending : Option EditOp

-- The state after the pending operation was settled: kept or dropped. A kept operation takes effect (`took`); its effect is stated
-- field by field here, so that a field is known without the operation.
abbrev pub settled : Bool → NameService → NameState
settled kept s =
    record s.names { table = settled_table kept s.pending s.names.table; walks = settled_walks kept s.pending s.names.updating s.names.walks }

-- after a start that found this table: in the next opening, with no ask open, no walk begun and nothing pending
abbrev pub started : ℕ → NameTable → NameService
started batch t = record { names = record { table = after_table t (next_opening t); next = 1; asks = []; walks = []; updating = None; batch = batch }; pending = None }

-- A running namesystem: its store, the counter of the next id, the open asks, the walks, the files of the batch of the last update, and
-- the number of files in a batch.
pub record RunningNames : Type 0 where
  pub store : StoreState
  pub next : ℕ
  pub asks : List OpenAsk
  pub walks : List WalkState
  pub updating : Option (List Sent)
  pub batch : ℕ

abbrev pub names_of : RunningNames → NameState
names_of r = record { table = r.store.table; next = r.next; asks = r.asks; walks = r.walks; updating = r.updating; batch = r.batch }

-- the state of a running namesystem, without its disk
abbrev pub service_of : RunningNames → NameService
service_of r = record { names = names_of r; pending = r.store.log.pending }

-- ids rise from ask to ask
abbrev pub AreAsksRising : List OpenAsk → Type 0
AreAsksRising [] = ⊤
AreAsksRising (a ∷ asks) = AllByRecursion (λ (b : OpenAsk). a.id < b.id) asks × AreAsksRising asks

-- ids of rows and of open asks are below the next one, ids rise from ask to ask, and no row has the id of an open ask
pub record IdsFit (rows : List Entry) (asks : List OpenAsk) (next : ℕ) : Type 0 where
  pub of_rows : All (λ e. e.row.id < next) rows
  pub of_asks : AllByRecursion (λ (a : OpenAsk). a.id < next) asks
  pub free : AllByRecursion (λ (a : OpenAsk). entry_of rows a.id ≡ None) asks
  pub rising : AreAsksRising asks

-- open asks were made in this opening
abbrev pub AreRecent : ℕ → List OpenAsk → Type 0
AreRecent opening asks = AllByRecursion (λ (a : OpenAsk). opening * 2 ^ 32 ≤ a.id) asks

-- no open ask has one of the ids
abbrev pub AreFree : List ℕ → List OpenAsk → Type 0
AreFree ids asks = AllByRecursion (λ (a : OpenAsk). is_among ids a.id ≡ false) asks

-- an operation that may be pending: the table allows it, its id is taken, and no open ask has it
pub record IsWaiting (s : NameState) (op : EditOp) : Type 0 where
  pub pending : IsPendingOperation s.table op
  pub below : AllBelow (next_id s) (uses op)
  pub free : AreFree (uses op) s.asks

-- What is true of each namesystem: the table and the pending operation keep their rules, ids in use are below the next one, and no batch
-- has a file twice.
pub record IsNames (s : NameService) : Type 0 where
  pub opened : 0 < s.names.table.opening
  pub few : s.names.next ≤ 2 ^ 32
  pub table : IsNameTable s.names.table
  pub ids : IdsFit s.names.table.rows s.names.asks (next_id s.names)
  pub recent : AreRecent s.names.table.opening s.names.asks
  pub waits : IfSome s.pending (IsWaiting s.names)
  pub once : WalksOnce s.names.walks
  pub size : (1 ≤ s.names.batch) × (s.names.batch ≤ 1000)

-- The log holds these acknowledged operations. The ids that they used are below the next one, and no open ask has one.
pub record IsNamesystemOf (disk : DiskState) (r : RunningNames) (ops : List EditOp) : Type 0 where
  pub used : List ℕ
  pub store : store.IsNameStoreOf disk r.store used ops
  pub below : AllBelow (next_id (names_of r)) used
  pub free : AreFree used r.asks
