-- What an event, or a part of one, does to the world and to one of its two logs.
use Rattle.std.specs.Prelude.{◌≡◌, ◌⊎◌, ℕ, ◌+◌, Bool, List, Option}
use Rattle.hk_base.specs.Disk.{DiskState, Tells}
use Rattle.hk_base.specs.Faults.{Rose}
use Rattle.hk_base.specs.declared.texts.Text.{Text}
use Rattle.edit_ops.specs.declared.ops.EditOp.{EditOp}
use Rattle.kms_calls.specs.declared.calls.KmsReply.{KmsReply}
use Rattle.key_rows.specs.declared.rows.KeyCommand.{KeyCommand}
use Rattle.prop_text.specs.declared.lines.PropLine.{PropLine}
use Rattle.kms_store.specs.Store.{IsLeftOf, NoCommand}
use Rattle.kms_core.specs.Service.{Logs}
use Rattle.kms_core.specs.State.{service_of}
use Rattle.kms_core.specs.Users.{RunningKms, running}
use Rattle.name_store.specs.Store.{NothingMore}
use Rattle.eek_seal.specs.declared.tickets.Ticket.{Ticket}
use Rattle.name_calls.specs.declared.calls.AskNote.{AskNote}
use Rattle.name_calls.specs.declared.calls.NameCall.{NameCall}
use Rattle.name_calls.specs.declared.calls.Want.{Want}
use Rattle.name_calls.specs.declared.paths.NPath.{NPath}
use Rattle.reenc_walk.specs.declared.sent.BatchNote.{BatchNote}
use Rattle.name_core.specs.Service.{Logs as NameLogs}
use Rattle.hk_events.specs.declared.event.Event.{Event}
use Rattle.hk_events.specs.declared.event.Line.{Line}
use Rattle.world_run.specs.declared.kept.KeptReply.{KeptReply}
use Rattle.world_run.specs.Acknowledged.{Acknowledged, nothing_acknowledged, of_keys, of_names}
use Rattle.world_run.specs.Step.{DeliverReply, DepositActs, DrawActs, FinishReply, GiveUpBatch, NamesAct, PathActs, ServeActs, Step, WalkAt, WantActs}
use Rattle.world_run.specs.Own.{OwnKeysOfEvent, OwnOfDelivery, OwnOfEvent, OwnOfGivingUp, OwnOfNamesCall, OwnOfPath, OwnOfReply, OwnOfWalkAt}
use Rattle.world_run.specs.World.{RunningWorld, next_batch, world_of}

-- The key log grew by the acknowledged commands, and the namesystem is unchanged.
pub record OnKeys (old new : DiskState) (r r' : RunningWorld) (own : Bool → KeyCommand → Type 0) (logged : Acknowledged) : Type 0 where
  pub commands : List KeyCommand
  pub logged_is : logged ≡ of_keys commands
  pub log : Logs old new r.keys.store r'.keys.store (IsLeftOf r.keys.store.table.keys r.keys.store.pending own) commands
  pub names : r'.names ≡ r.names

-- The edit log grew by the acknowledged operations, and the key management service is unchanged.
pub record OnNames (old new : DiskState) (r r' : RunningWorld) (own : Bool → EditOp → Type 0) (logged : Acknowledged) : Type 0 where
  pub ops : List EditOp
  pub logged_is : logged ≡ of_names ops
  pub log : NameLogs old new r.names r'.names own ops
  pub keys : r'.keys ≡ r.keys

-- What a step, or a part of one, does: P is true of the number of words drawn and the acknowledged records, it works on one log, and
-- the access control lists stay as they are.
pub record Does (old new : DiskState) (r r' : RunningWorld) (words words' : ℕ → ℕ) (own_keys : Bool → KeyCommand → Type 0) (own : Bool → EditOp → Type 0) (P : ℕ → Acknowledged → Type 0) : Type 0 where
  pub drawn : ℕ
  pub logged : Acknowledged
  pub acts : P drawn logged
  pub rest : (k : ℕ) → words' k ≡ words (drawn + k)
  pub disk : OnKeys old new r r' own_keys logged ⊎ OnNames old new r r' own logged
  pub lists : r'.keys.acls ≡ r.keys.acls

-- an event happens, with this answer and this world after it
abbrev pub Happens : List PropLine → DiskState → DiskState → RunningWorld → (ℕ → ℕ) → ℕ → Event → Line → RunningWorld → (ℕ → ℕ) → Type 0
Happens lines old new r words now e result r' words' =
    Does old new r r' words words' (OwnKeysOfEvent (world_of r) words now e result (world_of r')) (OwnOfEvent (world_of r) e result (world_of r'))
    (λ drawn logged. Step lines (world_of r) words now e (Rose old.faults new.faults) (Tells old) result drawn logged (world_of r'))

-- calls of the namesystem

abbrev pub CallHappens : DiskState → DiskState → RunningWorld → Text → NameCall → Line → RunningWorld → Type 0
CallHappens old new r user c result r' =
    (words : ℕ → ℕ) → Does old new r r' words words NoCommand (OwnOfNamesCall (world_of r).names c result (world_of r').names)
    (λ drawn logged. NamesAct (world_of r) user c (Rose old.faults new.faults) result drawn logged (world_of r'))

abbrev pub PathHappens : {X : Type 0} → DiskState → DiskState → RunningWorld → Text → (X → NameCall) → Option X → Line → RunningWorld → Type 0
PathHappens old new r user c read result r' =
    (words : ℕ → ℕ) → Does old new r r' words words NoCommand (OwnOfPath (world_of r).names c read result (world_of r').names)
    (λ drawn logged. PathActs (world_of r) user c read (Rose old.faults new.faults) result drawn logged (world_of r'))

abbrev pub FinishHappens : DiskState → DiskState → RunningWorld → Option KeptReply → Line → RunningWorld → Type 0
FinishHappens old new r reply result r' =
    (words : ℕ → ℕ) → Does old new r r' words words NoCommand (OwnOfReply (world_of r).names reply result (world_of r').names)
    (λ drawn logged. FinishReply (world_of r) reply (Rose old.faults new.faults) result drawn logged (world_of r'))

-- a walk

abbrev pub WalkHappens : DiskState → DiskState → RunningWorld → Option NPath → Line → RunningWorld → Type 0
WalkHappens old new r path result r' =
    (words : ℕ → ℕ) → Does old new r r' words words NoCommand (OwnOfWalkAt (world_of r).names path (next_batch (world_of r)) result (world_of r').names)
    (λ drawn logged. WalkAt (world_of r) path (Rose old.faults new.faults) result drawn logged (world_of r'))

-- the call for a batch; it writes nothing of its own
abbrev pub ServeHappens : List PropLine → DiskState → DiskState → RunningWorld → (ℕ → ℕ) → ℕ → Option BatchNote → Line → RunningWorld → (ℕ → ℕ) → Type 0
ServeHappens lines old new r words now batch result r' words' =
    Does old new r r' words words' NoCommand NothingMore (λ drawn logged. ServeActs lines (world_of r) words now batch (Rose old.faults new.faults) (Tells old) result drawn logged (world_of r'))

-- a delivery, and a giving up

abbrev pub DeliverHappens : DiskState → DiskState → RunningWorld → Option KeptReply → Line → RunningWorld → Type 0
DeliverHappens old new r reply result r' =
    (words : ℕ → ℕ) → Does old new r r' words words NoCommand (OwnOfDelivery (world_of r).names reply result (world_of r').names)
    (λ drawn logged. DeliverReply (world_of r) reply (Rose old.faults new.faults) result drawn logged (world_of r'))

abbrev pub GiveUpHappens : DiskState → DiskState → RunningWorld → Option BatchNote → Line → RunningWorld → Type 0
GiveUpHappens old new r batch result r' =
    (words : ℕ → ℕ) → Does old new r r' words words NoCommand (OwnOfGivingUp (world_of r).names batch result (world_of r').names)
    (λ drawn logged. GiveUpBatch (world_of r) batch (Rose old.faults new.faults) result drawn logged (world_of r'))

-- the parts of a draw

abbrev pub DrawHappens : List PropLine → DiskState → DiskState → RunningWorld → (ℕ → ℕ) → ℕ → Option AskNote → Line → RunningWorld → (ℕ → ℕ) → Type 0
DrawHappens lines old new r words now note result r' words' =
    Does old new r r' words words' NoCommand NothingMore (λ drawn logged. DrawActs lines (world_of r) words now note (Rose old.faults new.faults) (Tells old) result drawn logged (world_of r'))

-- A deposit draws words, and changes the queues alone.
pub record DepositHappens (r : RunningWorld) (words : ℕ → ℕ) (ticket : Option Ticket) (result : Line) (r' : RunningWorld) (words' : ℕ → ℕ) : Type 0 where
  pub drawn : ℕ
  pub acts : DepositActs (world_of r) words ticket result drawn nothing_acknowledged (world_of r')
  pub rest : (n : ℕ) → words' n ≡ words (drawn + n)
  pub keys : r'.keys ≡ record r.keys { ready = r'.keys.ready }
  pub names : r'.names ≡ r.names

-- the call that an ask wants is made on the key management service; it writes nothing of its own
pub record WantHappens (lines : List PropLine) (old new : DiskState) (k : RunningKms) (words : ℕ → ℕ) (now : ℕ) (wanted : Want) (result : Option KmsReply) (k' : RunningKms) (words' : ℕ → ℕ) : Type 0 where
  pub drawn : ℕ
  pub commands : List KeyCommand
  pub acts : WantActs lines (service_of (running k)) words now wanted (Rose old.faults new.faults) (Tells old) result drawn commands (service_of (running k'))
  pub rest : (n : ℕ) → words' n ≡ words (drawn + n)
  pub log : Logs old new k.store k'.store (IsLeftOf k.store.table.keys k.store.pending NoCommand) commands
  pub lists : k'.acls ≡ k.acls
