-- What each call of the cell does.
use Rattle.std.specs.Prelude.{◌≡◌, ◌⊎◌, ℕ, ⊤, Bool, true, false, length, Result, Err}
use mathlib.Core.List.{IsPrefix}
use Rattle.hk_base.specs.Disk.{DiskState}
use Rattle.hk_base.specs.declared.texts.Text.{Text}
use Rattle.name_calls.specs.Answers.{answer_of}
use Rattle.name_calls.specs.declared.calls.Answered.{Answered}
use Rattle.name_calls.specs.declared.calls.Ask.{Ask}
use Rattle.name_calls.specs.declared.calls.AskNote.{AskNote}
use Rattle.name_calls.specs.declared.calls.NameCall.{NameCall}
use Rattle.name_calls.specs.declared.calls.NameRefusal.{NameRefusal}
use Rattle.name_calls.specs.declared.calls.NameRefusal.TheVariants as refusal
use Rattle.name_calls.specs.declared.calls.NameReply.{NameReply}
use Rattle.name_calls.specs.declared.paths.NPath.{NPath}
use Rattle.name_calls.specs.declared.status.Delivered.{Delivered}
use Rattle.reenc_update.specs.Replies.{ReplyState}
use Rattle.name_core.specs.declared.walks.Walked.{Walked}
use Rattle.name_core.specs.Asks.{Asks, open_ask}
use Rattle.name_core.specs.Service.{FinishActs, NameActsOnDisk}
use Rattle.name_core.specs.State.{IsNames, NameState, names_of, service_of}
use Rattle.name_core.specs.Updates.{UpdateDeed, deliver_deed, ignore_deed}
use Rattle.name_core.specs.Updating.{UpdateActs}
use Rattle.name_core.specs.Walking.{WalkActs}
use Rattle.hist_cell.specs.History.{IsIn, LegalOf, Meets}
use Rattle.kms_cell.specs.Entries.{KmsKnown}
use Rattle.kms_cell.specs.Steps.{KmsSteps}
use Rattle.kms_cell.specs.Tickets.{KmsAllows}
use Rattle.kms_cell.specs.Views.{KmsView}
use Rattle.name_history.specs.Asked.{AnswersAsk}
use Rattle.name_history.specs.Fronts.{has_front, outstanding_fronts, with_front}
use Rattle.name_history.specs.Served.{GotForAsk, GotForBatch, ServesAsk, ServesBatch}
use Rattle.name_history.specs.Views.{NameView}
use Rattle.name_history.specs.declared.acts.NameAct.{NameAct}
use Rattle.name_history.specs.declared.acts.NameAct.TheVariants as act
use Rattle.name_history.specs.declared.acts.NameActed.{NameActed}
use Rattle.name_history.specs.declared.acts.NameActed.TheVariants as acted

-- ---- what each call does to the namesystem, its disk and the fronts

-- A call of a user. Three things are open: memory may run out; the disk may fail, if its count of faults rose; and the pending operation was
-- kept or not.
pub record CallSteps {D W : Type 0} (state : D → DiskState) (v : NameView D W) (user : Text) (c : NameCall) (reply : NameReply) (v' : NameView D W) : Type 0 where
  pub acts : NameActsOnDisk (state v.disk) (state v'.disk) v.names user c reply v'.names
  pub fronts : v'.fronts ≡ v.fronts

-- An ask of a user, which changes neither the store nor the disk. Memory may run out.
pub record AskSteps {D W : Type 0} (v : NameView D W) (user : Text) (a : Ask) (answer : Result AskNote NameRefusal) (v' : NameView D W) : Type 0 where
  pub asks : Asks (names_of v.names) user a answer (names_of v'.names)
  pub store : v'.names.store ≡ v.names.store
  pub disk : v'.disk ≡ v.disk
  pub fronts : v'.fronts ≡ v.fronts

-- the finish of an ask, with what the reply means for it; open is the same as for a call
pub record FinishSteps {D W : Type 0} (state : D → DiskState) (v : NameView D W) (answered : Answered) (answer : Result (Unit {0}) NameRefusal) (v' : NameView D W) : Type 0 where
  pub acts : FinishActs (state v.disk) (state v'.disk) v.names answered.id (answer_of answered.reply) answer v'.names
  pub fronts : v'.fronts ≡ v.fronts

-- A walk through the zone at a path; open is the same as for a call. Fronts of batches that are no longer outstanding are forgotten. The front
-- of the batch that it gives, if it gives one, is the number of entries that the kept pass has seen.
pub record WalkDone {D W : Type 0} (state : D → DiskState) (v : NameView D W) (zone : NPath) (answer : Result Walked NameRefusal) (v' : NameView D W) : Type 0 where
  pub acts : WalkActs (state v.disk) (state v'.disk) v.names zone answer v'.names
  pub fronts : v'.fronts ≡ with_front answer (length v.keys.seen) (outstanding_fronts (names_of v.names) v.fronts)

-- there was no memory for the front, and nothing was walked
pub record WalkLacksMemory {D W : Type 0} (v : NameView D W) (answer : Result Walked NameRefusal) (v' : NameView D W) : Type 0 where
  pub answer_is : answer ≡ Err refusal.NoMemory
  pub same : v' ≡ v

abbrev pub WalkSteps : {D W : Type 0} → (D → DiskState) → NameView D W → NPath → Result Walked NameRefusal → NameView D W → Type 0
WalkSteps state v zone answer v' = WalkDone state v zone answer v' ⊎ WalkLacksMemory v answer v'

-- a delivery is ignored unless its batch has that front
abbrev pub front_deed : Bool → ReplyState → NameState → UpdateDeed
front_deed true reply s = deliver_deed reply s
front_deed false reply s = ignore_deed reply.note s

-- the delivery of the reply to the call for a batch; open is the same as for a call
pub record DeliverSteps {D W : Type 0} (state : D → DiskState) (v : NameView D W) (front : ℕ) (reply : ReplyState) (answer : Result Delivered NameRefusal) (v' : NameView D W) : Type 0 where
  pub acts : UpdateActs (state v.disk) (state v'.disk) v.names (front_deed (has_front v.fronts reply.note front) reply) answer v'.names
  pub fronts : v'.fronts ≡ v.fronts

abbrev pub NameDoes : {D W : Type 0} → (D → DiskState) → NameView D W → NameAct → NameActed → NameView D W → Type 0
NameDoes state v (act.Call user c) (acted.Call reply) v' = CallSteps state v user c reply v'
NameDoes state v (act.Ask user a) (acted.Ask answer) v' = AskSteps v user a answer v'
NameDoes state v (act.Finish answered) (acted.Finish answer) v' = FinishSteps state v answered answer v'
NameDoes state v (act.Walk zone) (acted.Walk answer) v' = WalkSteps state v zone answer v'
NameDoes state v (act.Deliver front reply) (acted.Deliver answer) v' = DeliverSteps state v front reply answer v'
NameDoes state v _ _ v' = ⊥

-- ---- what each call does to the kept pass

-- A finish and a delivery show the reply that they use. Every other call leaves the kept pass as it is.
abbrev pub NameKeeps : {D W : Type 0} → NameView D W → NameAct → NameView D W → Type 0
NameKeeps v (act.Call user c) v' = v'.keys ≡ v.keys
NameKeeps v (act.Ask user a) v' = v'.keys ≡ v.keys
NameKeeps v (act.Finish answered) v' = ServesAsk (open_ask v.names.asks answered.id) answered.reply v.keys v'.keys
NameKeeps v (act.Walk zone) v' = v'.keys ≡ v.keys
NameKeeps v (act.Deliver front reply) v' = ServesBatch front reply v.keys v'.keys

-- a legal history of the keys
abbrev pub KeysLegal : {D W : Type 0} → (D → DiskState) → (W → ℕ → ℕ) → KmsKnown D W → Type 0
KeysLegal {D = D} {W = W} state to_come w = LegalOf (KmsSteps {D = D} {W = W} state to_come) (KmsAllows {S = KmsView D W}) w.start w.seen

-- What the kept pass has seen is a legal history that begins with what it had seen, and its ended numbers stay.
pub record GrowsPass {D W : Type 0} (state : D → DiskState) (to_come : W → ℕ → ℕ) (s t : KmsKnown D W) : Type 0 where
  pub legal : KeysLegal state to_come t
  pub start : t.start ≡ s.start
  pub begins : IsPrefix s.seen t.seen
  pub ended : (k : ℕ) → IsIn k s.ended → IsIn k t.ended

-- One call of the cell, with its reply and the state after it. The namesystem keeps its rules.
pub record NameSteps {D W : Type 0} (state : D → DiskState) (to_come : W → ℕ → ℕ) (v : NameView D W) (q : NameAct) (r : NameActed) (v' : NameView D W) : Type 0 where
  pub before : IsNames (service_of v.names)
  pub after : IsNames (service_of v'.names)
  pub grows : GrowsPass state to_come v.keys v'.keys
  pub keeps : NameKeeps v q v'
  pub does : NameDoes state v q r v'

-- ---- such a step in two: a pass is met into the kept one, and then the call is answered

-- the pass was met into the kept one, and nothing else changed
pub record TakesPass {D W : Type 0} (state : D → DiskState) (to_come : W → ℕ → ℕ) (v : NameView D W) (w : KmsKnown D W) (v' : NameView D W) : Type 0 where
  pub meets : Meets v.keys w v'.keys
  pub legal : KeysLegal state to_come v'.keys
  pub same : v' ≡ record v { keys = v'.keys }

-- the call was answered, and the kept pass is as it was
pub record NameAnswers {D W : Type 0} (state : D → DiskState) (to_come : W → ℕ → ℕ) (v : NameView D W) (q : NameAct) (r : NameActed) (v' : NameView D W) : Type 0 where
  pub before : IsNames (service_of v.names)
  pub after : IsNames (service_of v'.names)
  pub legal : KeysLegal state to_come v.keys
  pub keys : v'.keys ≡ v.keys
  pub does : NameDoes state v q r v'

-- a finish can be answered if its reply answers the call that its ask wants, if the ask is open
abbrev pub NameCan : {D W : Type 0} → NameView D W → NameAct → Type 0
NameCan v (act.Call user c) = ⊤
NameCan v (act.Ask user a) = ⊤
NameCan v (act.Finish answered) = AnswersAsk (open_ask v.names.asks answered.id) answered.reply
NameCan v (act.Walk zone) = ⊤
NameCan v (act.Deliver front reply) = ⊤

-- which pass suits a call
abbrev pub NameSuits : {D W : Type 0} → NameView D W → NameAct → KmsKnown D W → Type 0
NameSuits v (act.Call user c) w = ⊥
NameSuits v (act.Ask user a) w = ⊥
NameSuits v (act.Finish answered) w = GotForAsk (open_ask v.names.asks answered.id) answered.reply w
NameSuits v (act.Walk zone) w = ⊥
NameSuits v (act.Deliver front reply) w = GotForBatch front reply w
