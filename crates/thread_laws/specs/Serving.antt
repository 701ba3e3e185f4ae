-- Which entries of the history of the keys serve the calls of the namesystem.
use Rattle.std.specs.Prelude.{◌≡◌, ◌≢◌, ◌⊎◌, ℕ, List, [], ◌∷◌, ◌++◌, Ok, Some}
use mathlib.Core.List.{IsPrefix}
use Rattle.hk_base.specs.Disk.{DiskState}
use Rattle.kms_calls.specs.declared.calls.KmsReply.{KmsReply}
use Rattle.name_calls.specs.declared.calls.Answered.{Answered}
use Rattle.name_calls.specs.declared.paths.NPath.{NPath}
use Rattle.name_calls.specs.declared.status.Delivered.TheVariants.{Applied}
use Rattle.reenc_update.specs.Replies.{ReplyState}
use Rattle.batch_calls.specs.Batches.{reply_for}
use Rattle.name_core.specs.Asks.{open_ask}
use Rattle.name_core.specs.declared.asks.OpenAsk.{OpenAsk}
use Rattle.name_core.specs.declared.walks.Walked.TheVariants as walk
use Rattle.hist_cell.specs.History.{IsIn, Legal, own, state_after}
use Rattle.kms_cell.specs.Entries.{KmsEntry}
use Rattle.kms_cell.specs.declared.acts.KmsActed.TheVariants as key_acted
use Rattle.name_history.specs.Asked.{NameAllows}
use Rattle.name_history.specs.Entries.{NameEntry}
use Rattle.name_history.specs.Served.{IsUnserved, act_wanted, batch_act}
use Rattle.name_history.specs.Steps.{NameSteps}
use Rattle.name_history.specs.Views.{NameView}
use Rattle.name_history.specs.declared.acts.NameAct.TheVariants as act
use Rattle.name_history.specs.declared.acts.NameActed.TheVariants as acted

-- a legal history of the namesystem from this state on
abbrev pub NamesLegal : {D W : Type 0} → (D → DiskState) → (W → ℕ → ℕ) → NameView D W → List (NameEntry D W) → Type 0
NamesLegal {D = D} {W = W} state to_come v es = Legal (NameSteps {D = D} {W = W} state to_come) (NameAllows {S = NameView D W}) v es

-- The entry e of the namesystem, made in the state v, uses the entry x of the keys: the pass that made x was met into the kept pass by
-- this call, and x is the last entry that it made.
pub record Uses {D W : Type 0} (v : NameView D W) (e : NameEntry D W) (x : KmsEntry D W) : Type 0 where
  pub before : List (KmsEntry D W)
  pub after : List (KmsEntry D W)
  pub seen_is : e.after.keys.seen ≡ before ++ x ∷ after
  pub last : own x.by after ≡ []
  pub ended : IsIn x.by e.after.keys.ended
  pub new : ¬ IsIn x.by v.keys.ended

-- Two calls of the namesystem use entries of different passes, so no entry of the keys serves two finishes, two deliveries, or a finish
-- and a delivery.
abbrev pub EntriesServeOnce : {D W : Type 0} → (D → DiskState) → (W → ℕ → ℕ) → Type 0
EntriesServeOnce {D = D} {W = W} state to_come =
    (v : NameView D W) (before between after : List (NameEntry D W)) (e f : NameEntry D W) (x y : KmsEntry D W)
    → NamesLegal state to_come v (before ++ e ∷ (between ++ f ∷ after))
    → Uses (state_after v before) e x → Uses (state_after v (before ++ e ∷ between)) f y → x.by ≢ y.by

-- a finish uses an entry with the call that its ask wants, and with the reply that it was given
pub record FinishIsServed {D W : Type 0} (v : NameView D W) (e : NameEntry D W) (ask : OpenAsk) (reply : KmsReply) : Type 0 where
  pub entry : KmsEntry D W
  pub uses : Uses v e entry
  pub call_is : act_wanted ask.want ≡ Some entry.call
  pub reply_is : entry.reply ≡ key_acted.Call reply

-- Each finish of an open ask that is given a reply is served so.
abbrev pub FinishesAreServed : {D W : Type 0} → (D → DiskState) → (W → ℕ → ℕ) → Type 0
FinishesAreServed {D = D} {W = W} state to_come =
    (v : NameView D W) (before after : List (NameEntry D W)) (e : NameEntry D W) (answered : Answered) (ask : OpenAsk) (reply : KmsReply)
    → NamesLegal state to_come v (before ++ e ∷ after) → e.call ≡ act.Finish answered
    → open_ask (state_after v before).names.asks answered.id ≡ Some ask → answered.reply ≡ Some reply → FinishIsServed (state_after v before) e ask reply

-- a delivery uses an entry with the call for its batch, and with the reply that it was given, after these entries
pub record DeliveryIsServed {D W : Type 0} (v : NameView D W) (e : NameEntry D W) (reply : ReplyState) (seen : List (KmsEntry D W)) : Type 0 where
  pub entry : KmsEntry D W
  pub uses : Uses v e entry
  pub call_is : entry.call ≡ batch_act reply.note
  pub came : KmsReply
  pub reply_is : entry.reply ≡ key_acted.Call came
  pub means : reply ≡ reply_for reply.note came
  pub later : IsPrefix seen uses.before

-- A delivery in the state after these entries has a walk before it that gave its batch. The entry of the keys that it uses comes after
-- all that the kept pass had seen at the walk. Or there was no memory for the call, and nothing came back.
pub record IsTimely {D W : Type 0} (v : NameView D W) (before : List (NameEntry D W)) (e : NameEntry D W) (reply : ReplyState) : Type 0 where
  pub earlier : List (NameEntry D W)
  pub walked : NameEntry D W
  pub between : List (NameEntry D W)
  pub before_is : before ≡ earlier ++ walked ∷ between
  pub zone : NPath
  pub call_is : walked.call ≡ act.Walk zone
  pub gave : walked.reply ≡ acted.Walk (Ok (walk.Batch reply.note))
  pub served : IsUnserved reply ⊎ DeliveryIsServed (state_after v before) e reply (state_after v earlier).keys.seen

-- Each applied delivery is timely, so no batch is answered from a time before its encrypted keys were drawn. A history begins
-- with no batch.
abbrev pub DeliveriesAreTimely : {D W : Type 0} → (D → DiskState) → (W → ℕ → ℕ) → Type 0
DeliveriesAreTimely {D = D} {W = W} state to_come =
    (v : NameView D W) (before after : List (NameEntry D W)) (e : NameEntry D W) (front : ℕ) (reply : ReplyState) (changed skipped failed : ℕ)
    → NamesLegal state to_come v (before ++ e ∷ after) → v.fronts ≡ [] → e.call ≡ act.Deliver front reply
    → e.reply ≡ acted.Deliver (Ok (Applied changed skipped failed)) → IsTimely v before e reply
