-- The calls, asks and finishes of the namesystem over its store and its disk.
use Rattle.std.specs.Prelude.{◌≡◌, ◌⊎◌, ℕ, Bool, true, false, is_some, List, [], ◌∷◌, ◌++◌, Option, None, Some, Result, Ok, Err}
use Rattle.hk_base.specs.Disk.{DiskState, Tells, RunOn, LeavesOnly}
use Rattle.hk_base.specs.Faults.{Rose}
use Rattle.hk_base.specs.declared.names.Edek.{Edek}
use Rattle.hk_base.specs.declared.texts.Text.{Text}
use Rattle.edit_ops.specs.declared.ops.EditOp.{EditOp}
use Rattle.name_store.specs.Table.{NameTable, next_opening, settled_ops}
use Rattle.name_store.specs.Store.{IsLeftOf, IsNameLog, made_with}
use Rattle.name_core.specs.declared.asks.OpenAsk.{OpenAsk}
use Rattle.name_calls.specs.declared.calls.KeyAnswer.{KeyAnswer}
use Rattle.name_calls.specs.declared.calls.KeyAnswer.TheVariants as answer
use Rattle.name_calls.specs.declared.calls.NameCall.{NameCall}
use Rattle.name_calls.specs.declared.calls.NameCall.TheVariants as call
use Rattle.name_calls.specs.declared.calls.NameReply.{NameReply}
use Rattle.name_calls.specs.declared.calls.NameReply.TheVariants as reply
use Rattle.name_calls.specs.declared.calls.NameRefusal.{NameRefusal}
use Rattle.name_calls.specs.declared.calls.NameRefusal.TheVariants as refusal
use Rattle.name_core.specs.State.{NameService, NameState, RunningNames, IsNamesystemOf, service_of, settled, started}
use Rattle.name_core.specs.Calls.{NameActs, causes, deed, early_causes, first_cause}
use Rattle.name_core.specs.Asks.{Finishes, ask_gone, closed, finish_causes, finish_op, open_ask}

-- The calls that change the table. Each settles the pending operation first; the others answer from the table without it.
abbrev pub is_change : NameCall → Bool
is_change (call.Info r) = false
is_change (call.List r) = false
is_change (call.Status p) = false
is_change call.Zones = false
is_change _ = true

abbrev pub ops_of : Option EditOp → List EditOp
ops_of None = []
ops_of (Some op) = op ∷ []

-- an operation is acknowledged by an answer that is not a refusal
abbrev pub acknowledged : NameReply → Option EditOp → List EditOp
acknowledged (reply.Refused why) logs = []
acknowledged _ logs = ops_of logs

-- A call is refused before anything is settled, and nothing changes.
pub record RefusedEarly (why : NameRefusal) (s : NameService) (result : NameReply) (logged : List EditOp) (s' : NameService) : Type 0 where
  pub reply_is : result ≡ reply.Refused why
  pub none_logged : logged ≡ []
  pub same : s' ≡ s

-- a call that changes nothing
pub record OnlyReads (s : NameService) (c : NameCall) (result : NameReply) (logged : List EditOp) (s' : NameService) : Type 0 where
  pub acts : NameActs s.names c result s.names
  pub none_logged : logged ≡ []
  pub same : s' ≡ s

-- The pending operation could not be settled: it is still pending, and nothing changed.
pub record Unsettled (s : NameService) (fault : Type 0) (result : NameReply) (logged : List EditOp) (s' : NameService) : Type 0 where
  pub waits : is_some s.pending ≡ true
  pub failed : fault
  pub reply_is : result ≡ reply.Refused refusal.StoreFault
  pub none_logged : logged ≡ []
  pub same : s' ≡ s

-- A change while nothing is pending, after the operations that were settled. If it did anything, its operation was written.
pub record Written (names : NameState) (before : List EditOp) (c : NameCall) (result : NameReply) (logged : List EditOp) (s' : NameService) : Type 0 where
  pub changed : NameState
  pub acts : NameActs names c result changed
  pub logged_is : logged ≡ before ++ acknowledged result (deed names c).logs
  pub left : s' ≡ record { names = changed; pending = None }

-- The disk failed while the change was written: its operation is pending, its id is used, and nothing else changed.
pub record Unwritten (names : NameState) (before : List EditOp) (c : NameCall) (fault : Type 0) (result : NameReply) (logged : List EditOp) (s' : NameService) : Type 0 where
  pub failed : fault
  pub free : first_cause (causes names c) ≡ None
  pub reply_is : result ≡ reply.Refused refusal.StoreFault
  pub logged_is : logged ≡ before
  pub left : s' ≡ record { names = (deed names c).state; pending = (deed names c).logs }

abbrev pub Changes : NameState → List EditOp → NameCall → Type 0 → NameReply → List EditOp → NameService → Type 0
Changes names before c fault result logged s' = Written names before c result logged s' ⊎ Unwritten names before c fault result logged s'

abbrev pub ServesBy : Bool → NameService → NameCall → Type 0 → NameReply → List EditOp → NameService → Type 0
ServesBy false s c fault result logged s' = OnlyReads s c result logged s'
ServesBy true s c fault result logged s' = Unsettled s fault result logged s' ⊎ ((kept : Bool) × Changes (settled kept s) (settled_ops kept s.pending) c fault result logged s')

abbrev pub ServesUnless : Option NameRefusal → NameService → NameCall → Type 0 → NameReply → List EditOp → NameService → Type 0
ServesUnless (Some why) s c fault result logged s' = RefusedEarly why s result logged s'
ServesUnless None s c fault result logged s' = ServesBy (is_change c) s c fault result logged s'

-- From s, a call of a user may get this reply, acknowledge these operations and leave s'. A store fault comes only if `fault`
-- holds. A pending operation is acknowledged if it is found in the log.
abbrev pub NameServes : NameService → Text → NameCall → Type 0 → NameReply → List EditOp → NameService → Type 0
NameServes s user c fault result logged s' = ServesUnless (first_cause (early_causes user c)) s c fault result logged s'

-- finishing an ask

-- it is refused before anything is settled, and `left` is the state after it
pub record EndsEarly (why : NameRefusal) (left : NameService) (result : Result (Unit {0}) NameRefusal) (logged : List EditOp) (s' : NameService) : Type 0 where
  pub reply_is : result ≡ Err why
  pub none_logged : logged ≡ []
  pub left_is : s' ≡ left

abbrev pub closed_service : NameService → OpenAsk → NameService
closed_service s a = record s { names = closed s.names a.id }

-- The pending operation could not be settled: it is still pending. The ask is no longer open.
pub record FinishUnsettled (s : NameService) (a : OpenAsk) (fault : Type 0) (result : Result (Unit {0}) NameRefusal) (logged : List EditOp) (s' : NameService) : Type 0 where
  pub waits : is_some s.pending ≡ true
  pub failed : fault
  pub ends : EndsEarly refusal.StoreFault (closed_service s a) result logged s'

abbrev pub finish_logs : Result (Unit {0}) NameRefusal → EditOp → List EditOp
finish_logs (Ok _) op = op ∷ []
finish_logs (Err why) op = []

pub record FinishWritten (names : NameState) (before : List EditOp) (a : OpenAsk) (edek : Option Edek) (result : Result (Unit {0}) NameRefusal) (logged : List EditOp) (s' : NameService) : Type 0 where
  pub changed : NameState
  pub finishes : Finishes names a edek result changed
  pub logged_is : logged ≡ before ++ finish_logs result (finish_op a.id edek a.ask)
  pub left : s' ≡ record { names = changed; pending = None }

-- The disk failed while the record was written: its operation is pending, and the ask is no longer open.
pub record FinishUnwritten (names : NameState) (before : List EditOp) (a : OpenAsk) (edek : Option Edek) (fault : Type 0) (result : Result (Unit {0}) NameRefusal) (logged : List EditOp) (s' : NameService) : Type 0 where
  pub failed : fault
  pub free : first_cause (finish_causes names.table.rows names.table.statuses a edek a.ask) ≡ None
  pub reply_is : result ≡ Err refusal.StoreFault
  pub logged_is : logged ≡ before
  pub left : s' ≡ record { names = closed names a.id; pending = Some (finish_op a.id edek a.ask) }

abbrev pub Concludes : NameState → List EditOp → OpenAsk → Option Edek → Type 0 → Result (Unit {0}) NameRefusal → List EditOp → NameService → Type 0
Concludes names before a edek fault result logged s' = FinishWritten names before a edek result logged s' ⊎ FinishUnwritten names before a edek fault result logged s'

abbrev pub FinishServesOpen : NameService → OpenAsk → KeyAnswer → Type 0 → Result (Unit {0}) NameRefusal → List EditOp → NameService → Type 0
FinishServesOpen s a (answer.Refused why) fault result logged s' = EndsEarly (refusal.KeyRefused why) (closed_service s a) result logged s'
FinishServesOpen s a (answer.Given edek) fault result logged s' =
    FinishUnsettled s a fault result logged s' ⊎ ((kept : Bool) × Concludes (settled kept s) (settled_ops kept s.pending) a edek fault result logged s')

abbrev pub FinishServesAt : NameService → Option OpenAsk → KeyAnswer → Type 0 → Result (Unit {0}) NameRefusal → List EditOp → NameService → Type 0
FinishServesAt s None given fault result logged s' = EndsEarly (ask_gone s.names) s result logged s'
FinishServesAt s (Some a) given fault result logged s' = FinishServesOpen s a given fault result logged s'

-- From s, a finish of the ask with this id may get this answer, acknowledge these operations and leave s'.
abbrev pub FinishServes : NameService → ℕ → KeyAnswer → Type 0 → Result (Unit {0}) NameRefusal → List EditOp → NameService → Type 0
FinishServes s id given fault result logged s' = FinishServesAt s (open_ask s.names.asks id) given fault result logged s'

-- over a disk

-- What a call with this answer, and this state after it, may write after the settled log: its own operation, if the answer acknowledges
-- it or it is pending afterwards. A call refused for a cause, or because memory ran out, writes none, so no crash leaves one.
pub record OwnOf (s : NameService) (c : NameCall) (result : NameReply) (s' : NameService) (kept : Bool) (op : EditOp) : Type 0 where
  pub free : first_cause (causes (settled kept s) c) ≡ None
  pub is : (deed (settled kept s) c).logs ≡ Some op
  pub was_written : (acknowledged result (Some op) ≡ op ∷ []) ⊎ (s'.pending ≡ Some op)

-- what a finish with this answer, and this state after it, may write: its own operation, if it is done or pending afterwards
pub record OwnOfFinish (s : NameService) (id : ℕ) (given : KeyAnswer) (result : Result (Unit {0}) NameRefusal) (s' : NameService) (kept : Bool) (op : EditOp) : Type 0 where
  pub ask : OpenAsk
  pub edek : Option Edek
  pub was_open : open_ask s.names.asks id ≡ Some ask
  pub gave : given ≡ answer.Given edek
  pub free : first_cause (finish_causes (settled kept s).table.rows (settled kept s).table.statuses ask edek ask.ask) ≡ None
  pub is : op ≡ finish_op ask.id edek ask.ask
  pub was_written : (result ≡ Ok tt) ⊎ (s'.pending ≡ Some op)

-- What a call does to its disk: the acknowledged operations are in the log after the earlier ones, and a crash at any moment of the
-- call leaves the earlier ones, with the pending operation or without, and with one of `own` or without.
pub record Logs (old new : DiskState) (r r' : RunningNames) (own : Bool → EditOp → Type 0) (logged : List EditOp) : Type 0 where
  pub stands : Tells old → (ops : List EditOp) → IsNamesystemOf old r ops → IsNamesystemOf new r' (ops ++ logged)
  pub moments : Tells old → (ops : List EditOp) → (s : IsNamesystemOf old r ops) → LeavesOnly 1 old new (IsLeftOf (made_with r.store s.used) r.store.log.pending own ops)
  pub run : RunOn 1 old new

-- A call of a running namesystem over its disk.
pub record NameActsOnDisk (old new : DiskState) (r : RunningNames) (user : Text) (c : NameCall) (result : NameReply) (r' : RunningNames) : Type 0 where
  pub logged : List EditOp
  pub serves : NameServes (service_of r) user c (Rose old.faults new.faults) result logged (service_of r')
  pub disk : Logs old new r r' (OwnOf (service_of r) c result (service_of r')) logged

pub record FinishActs (old new : DiskState) (r : RunningNames) (id : ℕ) (given : KeyAnswer) (result : Result (Unit {0}) NameRefusal) (r' : RunningNames) : Type 0 where
  pub logged : List EditOp
  pub serves : FinishServes (service_of r) id given (Rose old.faults new.faults) result logged (service_of r')
  pub disk : Logs old new r r' (OwnOfFinish (service_of r) id given result (service_of r')) logged

-- A start found a table in the log, and added the next opening after its operations. Its walks take batches of this number of files.
pub record Starts (batch : ℕ) (old new : DiskState) (r : RunningNames) : Type 0 where
  pub found : NameTable
  pub opens : service_of r ≡ started batch found
  pub log : Tells old → (ops : List EditOp) × (used : List ℕ) × IsNameLog (old.reads 1) ops (record { table = found; used = used }) × IsNamesystemOf new r (ops ++ next_opening found ∷ [])
