-- Walks of the namesystem over its store and its disk.
use Rattle.std.specs.Prelude.{◌≡◌, ◌⊎◌, Bool, true, is_some, List, [], ◌++◌, Option, None, Some, Result, Ok, Err}
use Rattle.hk_base.specs.Disk.{DiskState}
use Rattle.hk_base.specs.Faults.{Rose}
use Rattle.edit_ops.specs.declared.ops.EditOp.{EditOp}
use Rattle.name_calls.specs.declared.calls.NameRefusal.{NameRefusal}
use Rattle.name_calls.specs.declared.calls.NameRefusal.TheVariants as refusal
use Rattle.name_calls.specs.declared.paths.NPath.{NPath}
use Rattle.name_store.specs.Table.{settled_ops}
use Rattle.name_core.specs.declared.walks.Walked.{Walked}
use Rattle.name_core.specs.declared.walks.Walked.TheVariants.{Completed}
use Rattle.name_core.specs.State.{NameService, NameState, RunningNames, service_of, settled}
use Rattle.name_core.specs.Calls.{Ending, Plain, NoRoom, done_with, first_cause, path_causes}
use Rattle.name_core.specs.Service.{Logs, ops_of}
use Rattle.name_core.specs.Walks.{WalkDeed, walk_causes, walk_deed}

-- while nothing is pending

-- the result of a walk: what it gives or its refusal, and the state after it
pub record WalkOutcome : Type 0 where
  pub reply : Result Walked NameRefusal
  pub state : NameState

abbrev pub walk_refused : NameRefusal → NameState → WalkOutcome
walk_refused why s = record { reply = Err why; state = s }

abbrev pub unless_not_walked : Option NameRefusal → NameState → WalkDeed → WalkOutcome
unless_not_walked (Some why) s d = walk_refused why s
unless_not_walked None s d = record { reply = Ok d.answer; state = done_with d.logs d.state }

abbrev pub walk_outcome : NameState → NPath → Ending → WalkOutcome
walk_outcome s p Plain = unless_not_walked (first_cause (walk_causes s p)) s (walk_deed s p)
walk_outcome s p NoRoom = walk_refused refusal.NoMemory s

-- memory may run out only if no other refusal applies
abbrev pub WalkMayEnd : NameState → NPath → Ending → Type 0
WalkMayEnd s p Plain = Unit {0}
WalkMayEnd s p NoRoom = first_cause (walk_causes s p) ≡ None

-- From s, while nothing is pending, a walk of the zone at the path may give this and leave s'.
abbrev pub NameWalks : NameState → NPath → Result Walked NameRefusal → NameState → Type 0
NameWalks s p result s' = (e : Ending) × WalkMayEnd s p e × (record { reply = result; state = s' } ≡ walk_outcome s p e)

-- the operation of a walk is acknowledged by an answer that is not a refusal
abbrev pub walk_logs : Result Walked NameRefusal → Option EditOp → List EditOp
walk_logs (Ok walked) logs = ops_of logs
walk_logs (Err why) logs = []

-- over a store

-- the walk is refused and nothing changes
pub record WalkRefused (why : NameRefusal) (s : NameService) (result : Result Walked NameRefusal) (logged : List EditOp) (s' : NameService) : Type 0 where
  pub reply_is : result ≡ Err why
  pub none_logged : logged ≡ []
  pub same : s' ≡ s

-- the pending operation could not be settled: it is still pending, and nothing changed
pub record WalkUnsettled (s : NameService) (fault : Type 0) (result : Result Walked NameRefusal) (logged : List EditOp) (s' : NameService) : Type 0 where
  pub waits : is_some s.pending ≡ true
  pub failed : fault
  pub ends : WalkRefused refusal.StoreFault s result logged s'

-- A walk while nothing is pending, after the operations that were settled. If it completed the session, that was written.
pub record WalkWritten (names : NameState) (before : List EditOp) (p : NPath) (result : Result Walked NameRefusal) (logged : List EditOp) (s' : NameService) : Type 0 where
  pub changed : NameState
  pub walks : NameWalks names p result changed
  pub logged_is : logged ≡ before ++ walk_logs result (walk_deed names p).logs
  pub left : s' ≡ record { names = changed; pending = None }

-- The disk failed while the completion of the session was written: it is pending, and nothing else changed.
pub record WalkUnwritten (names : NameState) (before : List EditOp) (p : NPath) (fault : Type 0) (result : Result Walked NameRefusal) (logged : List EditOp) (s' : NameService) : Type 0 where
  pub failed : fault
  pub free : first_cause (walk_causes names p) ≡ None
  pub op : EditOp
  pub writes : (walk_deed names p).logs ≡ Some op
  pub reply_is : result ≡ Err refusal.StoreFault
  pub logged_is : logged ≡ before
  pub left : s' ≡ record { names = names; pending = Some op }

abbrev pub WalkGoes : NameState → List EditOp → NPath → Type 0 → Result Walked NameRefusal → List EditOp → NameService → Type 0
WalkGoes names before p fault result logged s' = WalkWritten names before p result logged s' ⊎ WalkUnwritten names before p fault result logged s'

abbrev pub WalkServesUnless : Option NameRefusal → NameService → NPath → Type 0 → Result Walked NameRefusal → List EditOp → NameService → Type 0
WalkServesUnless (Some why) s p fault result logged s' = WalkRefused why s result logged s'
WalkServesUnless None s p fault result logged s' =
    WalkUnsettled s fault result logged s' ⊎ ((kept : Bool) × WalkGoes (settled kept s) (settled_ops kept s.pending) p fault result logged s')

-- From s, a walk of the zone at the path may give this, acknowledge these operations and leave s'. A store fault comes only if `fault`
-- holds. A pending operation is acknowledged if it is found in the log.
abbrev pub WalkServes : NameService → NPath → Type 0 → Result Walked NameRefusal → List EditOp → NameService → Type 0
WalkServes s p fault result logged s' = WalkServesUnless (first_cause (path_causes p)) s p fault result logged s'

-- over a disk

-- what a walk with this answer, and this state after it, may write after the settled log: the completion of its session, if it is
-- acknowledged or pending afterwards
pub record OwnOfWalk (s : NameService) (p : NPath) (result : Result Walked NameRefusal) (s' : NameService) (kept : Bool) (op : EditOp) : Type 0 where
  pub free : first_cause (walk_causes (settled kept s) p) ≡ None
  pub is : (walk_deed (settled kept s) p).logs ≡ Some op
  pub was_written : (result ≡ Ok Completed) ⊎ (s'.pending ≡ Some op)

-- A walk of a running namesystem over its disk.
pub record WalkActs (old new : DiskState) (r : RunningNames) (p : NPath) (result : Result Walked NameRefusal) (r' : RunningNames) : Type 0 where
  pub logged : List EditOp
  pub serves : WalkServes (service_of r) p (Rose old.faults new.faults) result logged (service_of r')
  pub disk : Logs old new r r' (OwnOfWalk (service_of r) p result (service_of r')) logged
