-- What may be in a log after the acknowledged records, and what a crash leaves then: at rest, and while an event happens.
use Rattle.std.specs.Prelude.{◌≡◌, ℕ, Bool, Option, None, Some, Result}
use Rattle.hk_base.specs.Disk.{Image}
use Rattle.name_calls.specs.Paths.{read_path}
use Rattle.name_calls.specs.ReadPaths.{read_any_path}
use Rattle.edit_ops.specs.declared.ops.EditOp.{EditOp}
use Rattle.key_rows.specs.declared.rows.KeyCommand.{KeyCommand}
use Rattle.kms_calls.specs.declared.calls.KmsCall.{KmsCall}
use Rattle.kms_calls.specs.declared.calls.KmsReply.{KmsReply}
use Rattle.kms_store.specs.Store.{AKeyOpening, NoCommand}
use Rattle.kms_core.specs.Service.{OwnOf as OwnOfKeys}
use Rattle.kms_core.specs.State.{ServiceState}
use Rattle.name_store.specs.Store.{AnOpening, NothingMore}
use Rattle.name_calls.specs.declared.calls.KeyAnswer.{KeyAnswer}
use Rattle.name_calls.specs.declared.calls.NameCall.{NameCall}
use Rattle.name_calls.specs.declared.calls.NameCall.TheVariants as call
use Rattle.name_calls.specs.declared.calls.NameRefusal.{NameRefusal}
use Rattle.name_calls.specs.declared.calls.NameReply.{NameReply}
use Rattle.name_calls.specs.declared.paths.NPath.{NPath}
use Rattle.name_calls.specs.declared.status.Delivered.{Delivered}
use Rattle.reenc_walk.specs.declared.sent.BatchNote.{BatchNote}
use Rattle.name_core.specs.declared.walks.Walked.{Walked}
use Rattle.name_core.specs.Service.{OwnOf, OwnOfFinish}
use Rattle.name_core.specs.Updates.{UpdateDeed, deliver_deed, give_up_deed}
use Rattle.name_core.specs.Updating.{OwnOfUpdate}
use Rattle.name_core.specs.Walking.{OwnOfWalk}
use Rattle.name_core.specs.State.{NameService, NameState}
use Rattle.hk_events.specs.declared.event.Event.{Event}
use Rattle.hk_events.specs.declared.event.Event.TheVariants as event
use Rattle.hk_events.specs.declared.event.Line.{Line}
use Rattle.hk_events.specs.declared.event.Line.TheVariants as line
use Rattle.world_run.specs.declared.kept.KeptReply.{KeptReply}
use Rattle.world_run.specs.declared.kept.KeptReply.TheVariants.{ToAsk, ToBatch}
use Rattle.world_run.specs.Acknowledged.{Acknowledged, Survives}
use Rattle.world_run.specs.Batches.{walk_line}
use Rattle.world_run.specs.RenamePaths.{read_rename_paths, rename_along}
use Rattle.world_run.specs.SnapPaths.{read_snap_path, snap_at, unsnap_at}
use Rattle.world_run.specs.Step.{delete_with, finish_line, update_line}
use Rattle.world_run.specs.World.{WorldState, next_batch, numbered}

-- the key log

-- the command that a call with this answer, and this state after it, may write there
pub record OwnOfKeysCall (s : ServiceState) (words : ℕ → ℕ) (now : ℕ) (c : KmsCall) (outcome : Line) (s' : ServiceState) (kept : Bool) (command : KeyCommand) : Type 0 where
  pub reply : KmsReply
  pub reply_is : outcome ≡ line.Kms reply
  pub own : OwnOfKeys s words now c reply s' kept command

-- What an event with this answer, and this world after it, may write there: an opening, if it restarts the key management service,
-- and the command of its own call, if that is acknowledged, or is pending afterwards. The call that a draw makes changes no key,
-- and writes nothing.
abbrev pub OwnKeysOfEvent : WorldState → (ℕ → ℕ) → ℕ → Event → Line → WorldState → Bool → KeyCommand → Type 0
OwnKeysOfEvent w words now (event.Kms user c) outcome w' kept command = OwnOfKeysCall w.keys words now c outcome w'.keys kept command
OwnKeysOfEvent w words now event.RestartKms outcome w' kept command = AKeyOpening kept command
OwnKeysOfEvent w words now _ outcome w' kept command = NoCommand kept command

-- and a restart that failed
abbrev pub OwnKeysOfRestart : Event → Bool → KeyCommand → Type 0
OwnKeysOfRestart event.RestartKms kept command = AKeyOpening kept command
OwnKeysOfRestart _ kept command = NoCommand kept command

-- the edit log

-- the operation that a call with this answer, and this state after it, may write after the settled edit log
pub record OwnOfNamesCall (s : NameService) (c : NameCall) (outcome : Line) (s' : NameService) (kept : Bool) (op : EditOp) : Type 0 where
  pub reply : NameReply
  pub reply_is : outcome ≡ line.Name reply
  pub own : OwnOf s c reply s' kept op

-- the same for a call about what is read from the bytes of an event
abbrev pub OwnOfPath : {X : Type 0} → NameService → (X → NameCall) → Option X → Line → NameService → Bool → EditOp → Type 0
OwnOfPath s c None outcome s' kept op = ⊥
OwnOfPath s c (Some read) outcome s' kept op = OwnOfNamesCall s (c read) outcome s' kept op

-- the operation that a finish of an ask, by the meaning of its reply, may write there with this answer
pub record OwnOfFinishedAsk (s : NameService) (id : ℕ) (answer : KeyAnswer) (outcome : Line) (s' : NameService) (kept : Bool) (op : EditOp) : Type 0 where
  pub result : Result (Unit {0}) NameRefusal
  pub reply_is : outcome ≡ finish_line result
  pub own : OwnOfFinish s id answer result s' kept op

abbrev pub OwnOfReply : NameService → Option KeptReply → Line → NameService → Bool → EditOp → Type 0
OwnOfReply s None outcome s' kept op = ⊥
OwnOfReply s (Some (ToAsk id answer)) outcome s' kept op = OwnOfFinishedAsk s id answer outcome s' kept op
OwnOfReply s (Some (ToBatch reply)) outcome s' kept op = ⊥

-- the operation that a walk of the zone at a path may write there with this answer, if its batch would be kept under this number
pub record OwnOfWalked (s : NameService) (path : NPath) (number : ℕ) (outcome : Line) (s' : NameService) (kept : Bool) (op : EditOp) : Type 0 where
  pub result : Result Walked NameRefusal
  pub reply_is : outcome ≡ walk_line result number
  pub own : OwnOfWalk s path result s' kept op

abbrev pub OwnOfWalkAt : NameService → Option NPath → ℕ → Line → NameService → Bool → EditOp → Type 0
OwnOfWalkAt s None number outcome s' kept op = ⊥
OwnOfWalkAt s (Some path) number outcome s' kept op = OwnOfWalked s path number outcome s' kept op

-- the operation that a delivery or a giving up may write there with this answer
pub record OwnOfUpdated (s : NameService) (d : NameState → UpdateDeed) (outcome : Line) (s' : NameService) (kept : Bool) (op : EditOp) : Type 0 where
  pub result : Result Delivered NameRefusal
  pub reply_is : outcome ≡ update_line result
  pub own : OwnOfUpdate s d result s' kept op

abbrev pub OwnOfDelivery : NameService → Option KeptReply → Line → NameService → Bool → EditOp → Type 0
OwnOfDelivery s None outcome s' kept op = ⊥
OwnOfDelivery s (Some (ToAsk id answer)) outcome s' kept op = ⊥
OwnOfDelivery s (Some (ToBatch reply)) outcome s' kept op = OwnOfUpdated s (deliver_deed reply) outcome s' kept op

abbrev pub OwnOfGivingUp : NameService → Option BatchNote → Line → NameService → Bool → EditOp → Type 0
OwnOfGivingUp s None outcome s' kept op = ⊥
OwnOfGivingUp s (Some batch) outcome s' kept op = OwnOfUpdated s (give_up_deed batch) outcome s' kept op

-- the operation that an event with this answer, and this world after it, may write there
abbrev pub OwnOfEvent : WorldState → Event → Line → WorldState → Bool → EditOp → Type 0
OwnOfEvent w (event.Kms user c) outcome w' kept op = NothingMore kept op
OwnOfEvent w event.Ticket outcome w' kept op = NothingMore kept op
OwnOfEvent w (event.Deposit number) outcome w' kept op = NothingMore kept op
OwnOfEvent w event.RestartKms outcome w' kept op = NothingMore kept op
OwnOfEvent w event.RestartName outcome w' kept op = AnOpening kept op
OwnOfEvent w (event.Mkdir user path) outcome w' kept op = OwnOfPath w.names call.Mkdir (read_path path) outcome w'.names kept op
OwnOfEvent w (event.Delete user path recursive) outcome w' kept op = OwnOfPath w.names (delete_with recursive) (read_path path) outcome w'.names kept op
OwnOfEvent w (event.Rename user path to) outcome w' kept op = OwnOfPath w.names rename_along (read_rename_paths path to) outcome w'.names kept op
OwnOfEvent w (event.Info user path) outcome w' kept op = OwnOfPath w.names call.Info (read_any_path path) outcome w'.names kept op
OwnOfEvent w (event.List user path) outcome w' kept op = OwnOfPath w.names call.List (read_any_path path) outcome w'.names kept op
OwnOfEvent w (event.Allow user path) outcome w' kept op = OwnOfPath w.names call.Allow (read_path path) outcome w'.names kept op
OwnOfEvent w (event.Disallow user path) outcome w' kept op = OwnOfPath w.names call.Disallow (read_path path) outcome w'.names kept op
OwnOfEvent w (event.Snap user path name) outcome w' kept op = OwnOfPath w.names snap_at (read_snap_path path name) outcome w'.names kept op
OwnOfEvent w (event.Unsnap user path name) outcome w' kept op = OwnOfPath w.names unsnap_at (read_snap_path path name) outcome w'.names kept op
OwnOfEvent w (event.Cancel user path) outcome w' kept op = OwnOfPath w.names call.Cancel (read_path path) outcome w'.names kept op
OwnOfEvent w (event.Status user path) outcome w' kept op = OwnOfPath w.names call.Status (read_path path) outcome w'.names kept op
OwnOfEvent w (event.Zones user) outcome w' kept op = OwnOfNamesCall w.names call.Zones outcome w'.names kept op
OwnOfEvent w (event.AskCreate user path) outcome w' kept op = NothingMore kept op
OwnOfEvent w (event.AskZone user path key) outcome w' kept op = NothingMore kept op
OwnOfEvent w (event.AskSubmit user path) outcome w' kept op = NothingMore kept op
OwnOfEvent w (event.Draw number) outcome w' kept op = NothingMore kept op
OwnOfEvent w (event.Finish number) outcome w' kept op = OwnOfReply w.names (numbered w.kept.replies number) outcome w'.names kept op
OwnOfEvent w (event.Walk path) outcome w' kept op = OwnOfWalkAt w.names (read_path path) (next_batch w) outcome w'.names kept op
OwnOfEvent w (event.Serve number) outcome w' kept op = NothingMore kept op
OwnOfEvent w (event.Deliver number) outcome w' kept op = OwnOfDelivery w.names (numbered w.kept.replies number) outcome w'.names kept op
OwnOfEvent w (event.GiveUp number) outcome w' kept op = OwnOfGivingUp w.names (numbered w.kept.batches number) outcome w'.names kept op

-- and a restart that failed
abbrev pub OwnOfRestart : Event → Bool → EditOp → Type 0
OwnOfRestart event.RestartName kept op = AnOpening kept op
OwnOfRestart _ kept op = NothingMore kept op

-- what a crash leaves of both logs, if these records are acknowledged

-- between two events, while nothing is written
abbrev pub SurvivesAtRest : WorldState → Acknowledged → Image → Type 0
SurvivesAtRest w done image = Survives w done NoCommand NothingMore image

-- during an event that begins in this world at this moment, with these words to come, and gets this answer and that world after it
abbrev pub SurvivesEvent : WorldState → (ℕ → ℕ) → ℕ → Event → Line → WorldState → Acknowledged → Image → Type 0
SurvivesEvent w words now e outcome w' done image = Survives w done (OwnKeysOfEvent w words now e outcome w') (OwnOfEvent w e outcome w') image

-- during a restart that fails
abbrev pub SurvivesRestart : WorldState → Event → Acknowledged → Image → Type 0
SurvivesRestart w e done image = Survives w done (OwnKeysOfRestart e) (OwnOfRestart e) image
