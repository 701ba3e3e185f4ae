-- Deliveries and batches given up, over the store of the namesystem and its disk.
use Rattle.std.specs.Prelude.{◌≡◌, ◌⊎◌, Bool, true, is_some, List, [], ◌++◌, Option, None, Some, Result, Ok, Err}
use Rattle.hk_base.specs.Disk.{DiskState}
use Rattle.hk_base.specs.Faults.{Rose}
use Rattle.edit_ops.specs.declared.ops.EditOp.{EditOp}
use Rattle.name_calls.specs.declared.calls.NameRefusal.{NameRefusal}
use Rattle.name_calls.specs.declared.calls.NameRefusal.TheVariants as refusal
use Rattle.name_calls.specs.declared.status.Delivered.{Delivered}
use Rattle.name_store.specs.Table.{settled_ops}
use Rattle.name_core.specs.State.{NameService, NameState, RunningNames, service_of, settled}
use Rattle.name_core.specs.Calls.{Ending, Plain, NoRoom, done_with}
use Rattle.name_core.specs.Service.{Logs, ops_of}
use Rattle.name_core.specs.Updates.{UpdateDeed}

-- An update `d` is a delivery, or a batch given up: what it does in each state.

-- while nothing is pending

-- the result of an update: what it answers or its refusal, and the state after it
pub record UpdateOutcome : Type 0 where
  pub reply : Result Delivered NameRefusal
  pub state : NameState

abbrev pub update_outcome : NameState → (NameState → UpdateDeed) → Ending → UpdateOutcome
update_outcome s d Plain = record { reply = Ok (d s).answer; state = done_with (d s).logs (d s).state }
update_outcome s d NoRoom = record { reply = Err refusal.NoMemory; state = s }

-- memory may run out only if there is a record to write
abbrev pub UpdateMayEnd : NameState → (NameState → UpdateDeed) → Ending → Type 0
UpdateMayEnd s d Plain = Unit {0}
UpdateMayEnd s d NoRoom = is_some (d s).logs ≡ true

-- From s, while nothing is pending, an update may give this and leave s'.
abbrev pub NameUpdates : NameState → (NameState → UpdateDeed) → Result Delivered NameRefusal → NameState → Type 0
NameUpdates s d result s' = (e : Ending) × UpdateMayEnd s d e × (record { reply = result; state = s' } ≡ update_outcome s d e)

-- the operation of an update is acknowledged by an answer that is not a refusal
abbrev pub update_logs : Result Delivered NameRefusal → Option EditOp → List EditOp
update_logs (Ok delivered) logs = ops_of logs
update_logs (Err why) logs = []

-- over a store

-- the update is refused and nothing changes
pub record UpdateRefused (why : NameRefusal) (s : NameService) (result : Result Delivered NameRefusal) (logged : List EditOp) (s' : NameService) : Type 0 where
  pub reply_is : result ≡ Err why
  pub none_logged : logged ≡ []
  pub same : s' ≡ s

-- the pending operation could not be settled: it is still pending, and nothing changed
pub record UpdateUnsettled (s : NameService) (fault : Type 0) (result : Result Delivered NameRefusal) (logged : List EditOp) (s' : NameService) : Type 0 where
  pub waits : is_some s.pending ≡ true
  pub failed : fault
  pub ends : UpdateRefused refusal.StoreFault s result logged s'

-- An update while nothing is pending, after the operations that were settled. If it was applied, its operation was written.
pub record UpdateWritten (names : NameState) (before : List EditOp) (d : NameState → UpdateDeed) (result : Result Delivered NameRefusal) (logged : List EditOp) (s' : NameService) : Type 0 where
  pub changed : NameState
  pub updates : NameUpdates names d result changed
  pub logged_is : logged ≡ before ++ update_logs result (d names).logs
  pub left : s' ≡ record { names = changed; pending = None }

-- The disk failed while the operation was written: it is pending, and its batch is still outstanding.
pub record UpdateUnwritten (names : NameState) (before : List EditOp) (d : NameState → UpdateDeed) (fault : Type 0) (result : Result Delivered NameRefusal) (logged : List EditOp) (s' : NameService) : Type 0 where
  pub failed : fault
  pub op : EditOp
  pub writes : (d names).logs ≡ Some op
  pub reply_is : result ≡ Err refusal.StoreFault
  pub logged_is : logged ≡ before
  pub left : s' ≡ record { names = (d names).state; pending = Some op }

abbrev pub UpdateGoes : NameState → List EditOp → (NameState → UpdateDeed) → Type 0 → Result Delivered NameRefusal → List EditOp → NameService → Type 0
UpdateGoes names before d fault result logged s' = UpdateWritten names before d result logged s' ⊎ UpdateUnwritten names before d fault result logged s'

-- From s, an update may give this, acknowledge these operations and leave s'. A store fault comes only if `fault` holds. A pending
-- operation is acknowledged if it is found in the log.
abbrev pub UpdateServes : NameService → (NameState → UpdateDeed) → Type 0 → Result Delivered NameRefusal → List EditOp → NameService → Type 0
UpdateServes s d fault result logged s' =
    UpdateUnsettled s fault result logged s' ⊎ ((kept : Bool) × UpdateGoes (settled kept s) (settled_ops kept s.pending) d fault result logged s')

-- over a disk

-- what an update with this answer, and this state after it, may write after the settled log: its operation, if it is acknowledged or
-- pending afterwards
pub record OwnOfUpdate (s : NameService) (d : NameState → UpdateDeed) (result : Result Delivered NameRefusal) (s' : NameService) (kept : Bool) (op : EditOp) : Type 0 where
  pub is : (d (settled kept s)).logs ≡ Some op
  pub was_written : ((delivered : Delivered) × (result ≡ Ok delivered)) ⊎ (s'.pending ≡ Some op)

-- An update of a running namesystem over its disk.
pub record UpdateActs (old new : DiskState) (r : RunningNames) (d : NameState → UpdateDeed) (result : Result Delivered NameRefusal) (r' : RunningNames) : Type 0 where
  pub logged : List EditOp
  pub serves : UpdateServes (service_of r) d (Rose old.faults new.faults) result logged (service_of r')
  pub disk : Logs old new r r' (OwnOfUpdate (service_of r) d result (service_of r')) logged
