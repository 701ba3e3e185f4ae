-- The steps that the namesystem takes in a call.
use Rattle.std.specs.Prelude.{◌≡◌, ◌≢◌, ◌⊎◌, ◌≤◌, ◌^◌, ℕ, Bool, true, false, List, [], ◌∷◌, ◌++◌, Option, None, Some, Result, Ok, Err, IfSome, is_some, ⊤}
use Rattle.std.specs.List.{AllByRecursion}
use Rattle.std.specs.Option.{option_map_or}
use Rattle.hk_base.specs.Disk.{DiskState, Tells, RunOn, LeavesOnly}
use Rattle.hk_base.specs.Faults.{Rose}
use Rattle.hk_base.specs.declared.names.Edek.{Edek}
use Rattle.hk_base.specs.declared.texts.Text.{Text}
use Rattle.frame_log.specs.declared.fault.StoreRefusal.{StoreRefusal}
use Rattle.frame_log.specs.declared.fault.StoreRefusal.TheVariants as store
use Rattle.inode_tree.specs.Rows.{Entry}
use Rattle.edit_ops.specs.Records.{HasSpelling, fits}
use Rattle.edit_ops.specs.declared.ops.EditOp.{EditOp}
use Rattle.name_store.specs.Replay.{AllBelow, Applies}
use Rattle.name_store.specs.Store.{IsLeftOf, IsLogOf, NothingMore, is_opening, made_with}
use Rattle.name_store.specs.Table.{Replayed, allows, fits_key, is_fresh, settled_ops, uses}
use Rattle.reenc_walk.specs.declared.sent.BatchNote.{BatchNote}
use Rattle.reenc_walk.specs.declared.sent.Sent.{Sent}
use Rattle.reenc_walk.specs.declared.walker.Walk.{Walk}
use Rattle.reenc_walk.specs.declared.walker.Walk.TheVariants as walk
use Rattle.reenc_walk.specs.Files.{walk_list}
use Rattle.reenc_walk.specs.Walks.{WalkState, note_of, outstanding, walked}
use Rattle.zone_table.specs.declared.statuses.StatusRow.{StatusRow}
use Rattle.name_core.specs.declared.asks.OpenAsk.{OpenAsk}
use Rattle.name_calls.specs.declared.calls.Ask.{Ask}
use Rattle.name_calls.specs.declared.calls.Ask.TheVariants as ask
use Rattle.name_calls.specs.declared.calls.NameCall.{NameCall}
use Rattle.name_calls.specs.declared.calls.NameReply.{NameReply}
use Rattle.name_calls.specs.declared.calls.NameReply.TheVariants.{Done, Refused}
use Rattle.name_calls.specs.declared.calls.NameRefusal.{NameRefusal}
use Rattle.name_calls.specs.declared.calls.NameRefusal.TheVariants.{NoMemory, StoreFault}
use Rattle.name_calls.specs.declared.paths.NPath.{NPath}
use Rattle.name_calls.specs.declared.status.Delivered.{Delivered}
use Rattle.reenc_update.specs.declared.changes.Changes.{Changes as BatchChanges}
use Rattle.name_core.specs.declared.walks.Walked.{Walked}
use Rattle.name_core.specs.declared.walks.Walked.TheVariants as result
use Rattle.name_core.specs.State.{AreFree, AreRecent, IdsFit, NameService, NameState, RunningNames, IsNamesystemOf, names_of, next_id, service_of, settled, walks_after}
use Rattle.name_core.specs.Asks.{finish_causes, finish_op}
use Rattle.name_core.specs.Calls.{causes, deed, done_with, early_causes, first_cause}
use Rattle.name_core.specs.Reads.{answer_unless}
use Rattle.name_core.specs.Service.{Changes, Concludes, OwnOf, ServesBy, acknowledged}
use Rattle.name_core.specs.Updates.{UpdateDeed, is_outstanding, update_op}
use Rattle.name_core.specs.Updating.{UpdateGoes}
use Rattle.name_core.specs.Walking.{WalkGoes}
use Rattle.name_core.specs.Walks.{going_on, new_walk, none_left, session_at, walk_causes, walk_deed, walk_of, walk_under, with_walk}

-- A read answers this, or is refused for the first of its causes. If it allocates and has no cause, memory may run out.
abbrev pub Answers : Bool → List (Bool × NameRefusal) → NameReply → NameReply → Type 0
Answers takes causes answer reply =
    (reply ≡ answer_unless (first_cause causes) answer) ⊎ ((reply ≡ Refused NoMemory) × (takes ≡ true) × (first_cause causes ≡ None))

-- each ask is kept under its id
abbrev pub AreKeyed : List (ℕ × OpenAsk) → Type 0
AreKeyed entries = AllByRecursion (λ (e : ℕ × OpenAsk). e.0 ≡ e.1.id) entries

-- a pending operation is not an opening, its ids are taken, and no open ask has one
pub record IsPendingApart (s : NameState) (op : EditOp) : Type 0 where
  pub no_opening : is_opening op ≡ false
  pub below : AllBelow (next_id s) (uses op)
  pub free : AreFree (uses op) s.asks

-- What is true of ids, apart from the rules of the store: those in use are below the next one, those of open asks are of this opening,
-- and no open ask has one that the pending operation uses.
pub record Keeps (s : NameService) : Type 0 where
  pub few : s.names.next ≤ 2 ^ 32
  pub ids : IdsFit s.names.table.rows s.names.asks (next_id s.names)
  pub recent : AreRecent s.names.table.opening s.names.asks
  pub waits : IfSome s.pending (IsPendingApart s.names)

-- An operation, and the state that its call leaves apart from the effect of the operation: ids are in order after it.
pub record IsBehind (s : NameState) (op : EditOp) (left : NameState) : Type 0 where
  pub no_opening : is_opening op ≡ false
  pub same_table : left.table ≡ s.table
  pub rises : s.next ≤ left.next
  pub few : left.next ≤ 2 ^ 32
  pub ids : IdsFit s.table.rows left.asks (next_id left)
  pub recent : AreRecent s.table.opening left.asks
  pub below : AllBelow (next_id left) (uses op)
  pub free : AreFree (uses op) left.asks

-- such an operation that may be written: the table allows it, and no earlier operation used its id
pub record MayWrite (s : NameState) (op : EditOp) (left : NameState) : Type 0 where
  pub behind : IsBehind s op left
  pub allowed : allows s.table op ≡ true
  pub spelled : fits op ≡ true
  pub fresh : (used : List ℕ) → AllBelow (next_id s) used → AreFree used s.asks → is_fresh used op ≡ true
  pub fewer : (used : List ℕ) → AreFree used s.asks → AreFree used left.asks

-- What a crash may leave of a log of these operations, which replay to `made`, while nothing is pending: the log with or without one
-- more operation, which is the call's own and applies.
pub record Grows (made : Replayed) (own : EditOp → Type 0) (ops : List EditOp) (bytes : List ℕ) : Type 0 where
  pub more : Option EditOp
  pub more_is : IfSome more own
  pub fits : Applies made more
  pub spelled : IfSome more HasSpelling
  pub log : IsLogOf ops more bytes

abbrev pub Growing : RunningNames → (EditOp → Type 0) → List ℕ → List EditOp → List ℕ → Type 0
Growing r own used ops bytes = Grows (made_with r.store used) own ops bytes

abbrev pub Leaving : RunningNames → (Bool → EditOp → Type 0) → List ℕ → List EditOp → List ℕ → Type 0
Leaving r own used ops bytes = IsLeftOf (made_with r.store used) r.store.log.pending own ops bytes

-- What a step does to its disk: the acknowledged operations are in the log after the earlier ones, and a crash at any moment of the
-- step leaves what P allows for the earlier ones and the ids that they used.
pub record Logging (old new : DiskState) (r r' : RunningNames) (P : List ℕ → List EditOp → List ℕ → Type 0) (logged : List EditOp) : Type 0 where
  pub stands : Tells old → (ops : List EditOp) → IsNamesystemOf old r ops → IsNamesystemOf new r' (ops ++ logged)
  pub moments : Tells old → (ops : List EditOp) → (s : IsNamesystemOf old r ops) → LeavesOnly 1 old new (P s.used ops)
  pub run : RunOn 1 old new

-- the walks after the operation that was kept, if there is one
abbrev pub walks_with : Option EditOp → Option (List Sent) → List WalkState → List WalkState
walks_with None sent walks = walks
walks_with (Some op) sent walks = walks_after sent op walks

-- the pending operation was settled: kept or dropped
pub record Settling (old new : DiskState) (r r' : RunningNames) : Type 0 where
  pub kept : Bool
  pub service : service_of r' ≡ record { names = settled kept (service_of r); pending = None }
  pub disk : Logging old new r r' (Leaving r NothingMore) (settled_ops kept r.store.log.pending)

-- the disk failed, and the operation is still pending
pub record IsUnsettled (old new : DiskState) (r r' : RunningNames) : Type 0 where
  pub waits : is_some r.store.log.pending ≡ true
  pub failed : Rose old.faults new.faults
  pub same : r' ≡ r
  pub disk : Logging old new r r' (Leaving r NothingMore) []

-- the operation was written and took effect
pub record IsOperationDone (old new : DiskState) (r : RunningNames) (left : NameState) (op : EditOp) (r' : RunningNames) : Type 0 where
  pub service : service_of r' ≡ record { names = done_with (Some op) left; pending = None }
  pub disk : Logging old new r r' (Growing r (λ own. own ≡ op)) (op ∷ [])

-- memory ran out, and nothing changes
pub record IsWanting (old new : DiskState) (r r' : RunningNames) : Type 0 where
  pub service : service_of r' ≡ record { names = names_of r; pending = None }
  pub disk : Logging old new r r' (Growing r (λ own. ⊥)) []

-- the disk failed, and the operation is pending
pub record IsPendingNow (old new : DiskState) (r : RunningNames) (left : NameState) (op : EditOp) (r' : RunningNames) : Type 0 where
  pub failed : Rose old.faults new.faults
  pub service : service_of r' ≡ record { names = left; pending = Some op }
  pub disk : Logging old new r r' (Growing r (λ own. own ≡ op)) []

-- the result of writing an operation while nothing is pending
abbrev pub Writes : DiskState → DiskState → RunningNames → NameState → EditOp → Result (Unit {0}) StoreRefusal → RunningNames → Type 0
Writes old new r left op (Ok done) r' = IsOperationDone old new r left op r'
Writes old new r left op (Err store.NoMemory) r' = IsWanting old new r r'
Writes old new r left op (Err store.StoreFault) r' = IsPendingNow old new r left op r'

-- the refusal of the namesystem for one of its store
abbrev pub refusal_of : StoreRefusal → NameRefusal
refusal_of store.NoMemory = NoMemory
refusal_of store.StoreFault = StoreFault

abbrev pub answer_of_store : Result (Unit {0}) StoreRefusal → NameReply
answer_of_store (Ok done) = Done
answer_of_store (Err why) = Refused (refusal_of why)

abbrev pub finish_answer : Result (Unit {0}) StoreRefusal → Result (Unit {0}) NameRefusal
finish_answer (Ok done) = Ok done
finish_answer (Err why) = Err (refusal_of why)

abbrev pub walk_answer : Result (Unit {0}) StoreRefusal → Result Walked NameRefusal
walk_answer (Ok done) = Ok result.Completed
walk_answer (Err why) = Err (refusal_of why)

-- a submission was given an encrypted key
abbrev pub HasWanted : Ask → Option Edek → Type 0
HasWanted (ask.Submit p) edek = is_some edek ≡ true
HasWanted _ edek = ⊤

-- some user may make the call
abbrev pub MayBegin : NameCall → Type 0
MayBegin c = (user : Text) × (first_cause (early_causes user c) ≡ None)

-- a change that is not refused before anything is settled
pub record ActsOn (old new : DiskState) (r : RunningNames) (c : NameCall) (reply : NameReply) (r' : RunningNames) : Type 0 where
  pub logged : List EditOp
  pub serves : ServesBy true (service_of r) c (Rose old.faults new.faults) reply logged (service_of r')
  pub disk : Logging old new r r' (Leaving r (OwnOf (service_of r) c reply (service_of r'))) logged

-- the operation that a change with this answer and this state after it may write, while nothing is pending
abbrev pub OwnChange : NameState → NameCall → NameReply → NameService → EditOp → Type 0
OwnChange s c reply s' op =
    (first_cause (causes s c) ≡ None) × ((deed s c).logs ≡ Some op) × ((acknowledged reply (Some op) ≡ op ∷ []) ⊎ (s'.pending ≡ Some op))

-- a change while nothing is pending
pub record ActsSettled (old new : DiskState) (r : RunningNames) (c : NameCall) (reply : NameReply) (r' : RunningNames) : Type 0 where
  pub logged : List EditOp
  pub changes : Changes (names_of r) [] c (Rose old.faults new.faults) reply logged (service_of r')
  pub disk : Logging old new r r' (Growing r (OwnChange (names_of r) c reply (service_of r'))) logged

-- the number of outstanding batches of a session
abbrev pub outstanding_under : List WalkState → ℕ → ℕ
outstanding_under walks session = option_map_or (λ w. outstanding w.batches) (walk_under walks session) 0

-- What a walk of the session of a status answers, and the walks after it.

-- its first batch
abbrev pub BeginsWalk : List Entry → ℕ → ℕ → StatusRow → List WalkState → Walk → List WalkState → Type 0
BeginsWalk rows zone size st walks (walk.Batch note) walks' =
    (walk_list rows zone st.mark ≢ []) × (note ≡ note_of rows zone size (new_walk st)) × (walks' ≡ walks ++ walked rows zone size (new_walk st) ∷ [])
BeginsWalk rows zone size st walks walk.NoneLeft walks' = (walk_list rows zone st.mark ≡ []) × (walks' ≡ walks)
BeginsWalk rows zone size st walks walk.NoMemory walks' = walks' ≡ walks

-- its next batch
abbrev pub TakesNext : List Entry → ℕ → ℕ → StatusRow → List WalkState → Walk → List WalkState → Type 0
TakesNext rows zone size st walks (walk.Batch note) walks' =
    (walk_list rows zone (walk_of walks st).cursor ≢ []) × (note ≡ note_of rows zone size (walk_of walks st)) × (walks' ≡ with_walk (walked rows zone size (walk_of walks st)) walks)
TakesNext rows zone size st walks walk.NoneLeft walks' = (walk_list rows zone (walk_of walks st).cursor ≡ []) × (walks' ≡ walks)
TakesNext rows zone size st walks walk.NoMemory walks' = walks' ≡ walks

-- its next batch, and the walks of sessions that have ended are forgotten
abbrev pub TakesBatch : List Entry → List StatusRow → ℕ → ℕ → StatusRow → List WalkState → Walk → List WalkState → Type 0
TakesBatch rows statuses zone size st walks (walk.Batch note) walks' =
    (walk_list rows zone (walk_of walks st).cursor ≢ []) × (note ≡ note_of rows zone size (walk_of walks st))
    × (walks' ≡ going_on statuses (with_walk (walked rows zone size (walk_of walks st)) walks))
TakesBatch rows statuses zone size st walks walk.NoneLeft walks' = (walk_list rows zone (walk_of walks st).cursor ≡ []) × (walks' ≡ walks)
TakesBatch rows statuses zone size st walks walk.NoMemory walks' = walks' ≡ walks

-- no file of the zone is left
abbrev pub IsAtEnd : NameState → NPath → Type 0
IsAtEnd s p = walk_deed s p ≡ none_left s (session_at s.table p) (outstanding_under s.walks (session_at s.table p))

-- the next batch of a zone that is being re-encrypted is taken, if there is one
abbrev pub Takes : RunningNames → NPath → Walk → RunningNames → Type 0
Takes r p (walk.Batch note) r' = (walk_deed (names_of r) p ≡ record { answer = result.Batch note; logs = None; state = names_of r' }) × (r' ≡ record r { walks = r'.walks })
Takes r p walk.NoneLeft r' = IsAtEnd (names_of r) p × (r' ≡ r)
Takes r p walk.NoMemory r' = r' ≡ r

-- the operation that a walk with this answer and this state after it may write
abbrev pub OwnWalk : NameState → NPath → Result Walked NameRefusal → NameService → EditOp → Type 0
OwnWalk s p reply s' op =
    (first_cause (walk_causes s p) ≡ None) × ((walk_deed s p).logs ≡ Some op) × ((reply ≡ Ok result.Completed) ⊎ (s'.pending ≡ Some op))

-- a walk while nothing is pending
pub record WalksSettled (old new : DiskState) (r : RunningNames) (p : NPath) (reply : Result Walked NameRefusal) (r' : RunningNames) : Type 0 where
  pub logged : List EditOp
  pub goes : WalkGoes (names_of r) [] p (Rose old.faults new.faults) reply logged (service_of r')
  pub disk : Logging old new r r' (Growing r (OwnWalk (names_of r) p reply (service_of r'))) logged

-- the operation that an update with this answer and this state after it may write, while nothing is pending
abbrev pub OwnUpdate : NameState → (NameState → UpdateDeed) → Result Delivered NameRefusal → NameService → EditOp → Type 0
OwnUpdate s d reply s' op = ((d s).logs ≡ Some op) × (((delivered : Delivered) × (reply ≡ Ok delivered)) ⊎ (s'.pending ≡ Some op))

-- an update while nothing is pending
pub record UpdatesSettled (old new : DiskState) (r : RunningNames) (d : NameState → UpdateDeed) (reply : Result Delivered NameRefusal) (r' : RunningNames) : Type 0 where
  pub logged : List EditOp
  pub goes : UpdateGoes (names_of r) [] d (Rose old.faults new.faults) reply logged (service_of r')
  pub disk : Logging old new r r' (Growing r (OwnUpdate (names_of r) d reply (service_of r'))) logged

-- what is known of the changes of an outstanding batch: the table allows its update
abbrev pub MayUpdate : NameState → BatchNote → BatchChanges → Type 0
MayUpdate s note changes = (is_outstanding s note ≡ true) × (fits_key s.table (update_op s note changes) ≡ true)

abbrev pub delivered_answer : Delivered → Result (Unit {0}) StoreRefusal → Result Delivered NameRefusal
delivered_answer delivered (Ok done) = Ok delivered
delivered_answer delivered (Err why) = Err (refusal_of why)

-- the operation that a finish with this answer and this state after it may write, while nothing is pending
abbrev pub OwnFinish : NameState → OpenAsk → Option Edek → Result (Unit {0}) NameRefusal → NameService → EditOp → Type 0
OwnFinish s a edek reply s' op =
    (first_cause (finish_causes s.table.rows s.table.statuses a edek a.ask) ≡ None) × (op ≡ finish_op a.id edek a.ask) × ((reply ≡ Ok tt) ⊎ (s'.pending ≡ Some op))

-- a finish of an open ask while nothing is pending
pub record FinishesSettled (old new : DiskState) (r : RunningNames) (a : OpenAsk) (edek : Option Edek) (reply : Result (Unit {0}) NameRefusal) (r' : RunningNames) : Type 0 where
  pub logged : List EditOp
  pub concludes : Concludes (names_of r) [] a edek (Rose old.faults new.faults) reply logged (service_of r')
  pub disk : Logging old new r r' (Growing r (OwnFinish (names_of r) a edek reply (service_of r'))) logged
