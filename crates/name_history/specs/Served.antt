-- What a pass of the keys has got, and what the kept pass shows of it once that pass was met into it.
use Rattle.std.specs.Prelude.{◌≡◌, ◌≤◌, ◌⊎◌, ℕ, ⊤, List, [], ◌∷◌, ◌++◌, length, Option, Some, None}
use Rattle.kms_calls.specs.declared.calls.KmsCall.TheVariants as key_call
use Rattle.kms_calls.specs.declared.calls.KmsRefusal.TheVariants as key_refusal
use Rattle.kms_calls.specs.declared.calls.KmsReply.{KmsReply}
use Rattle.kms_calls.specs.declared.calls.KmsReply.TheVariants as key_reply
use Rattle.name_calls.specs.declared.calls.Answered.{Answered}
use Rattle.name_calls.specs.declared.calls.AskNote.{AskNote}
use Rattle.name_calls.specs.declared.calls.Want.{Want}
use Rattle.name_calls.specs.declared.calls.Want.TheVariants as want
use Rattle.reenc_walk.specs.declared.sent.BatchNote.{BatchNote}
use Rattle.reenc_update.specs.Replies.{ReplyState}
use Rattle.batch_calls.specs.Batches.{batch_call, reply_for}
use Rattle.name_core.specs.Calls.{superuser}
use Rattle.name_core.specs.declared.asks.OpenAsk.{OpenAsk}
use Rattle.hist_cell.specs.History.{IsIn, own}
use Rattle.kms_cell.specs.Entries.{KmsEntry, KmsKnown}
use Rattle.kms_cell.specs.declared.acts.KmsAct.{KmsAct}
use Rattle.kms_cell.specs.declared.acts.KmsAct.TheVariants as key_act
use Rattle.kms_cell.specs.declared.acts.KmsActed.TheVariants as key_acted

-- the call of the key management service that an ask wants, if it wants one
abbrev pub act_wanted : Want → Option KmsAct
act_wanted want.Nothing = None
act_wanted (want.Generate name) = Some (key_act.Call superuser (key_call.Generate name 1))
act_wanted (want.Metadata name) = Some (key_act.Call superuser (key_call.Metadata name))

-- the call of the key management service for a batch
abbrev pub batch_act : BatchNote → KmsAct
batch_act note = key_act.Call superuser (batch_call note)

-- a call was wanted and has a reply, of which this holds; or none was, and there is no reply
abbrev pub IfWanted : (KmsAct → KmsReply → Type 0) → Option KmsAct → Option KmsReply → Type 0
IfWanted Holds None None = ⊤
IfWanted Holds (Some q) (Some r) = Holds q r
IfWanted Holds _ _ = ⊥

-- nothing came back for the batch, as if there had been no memory for its call
abbrev pub IsUnserved : ReplyState → Type 0
IsUnserved reply = reply ≡ reply_for reply.note (key_reply.Refused key_refusal.NoMemory)

-- nothing came back for the batch, or this holds of the call for it and the reply to that
abbrev pub IfServed : (KmsAct → KmsReply → Type 0) → ReplyState → Type 0
IfServed Holds reply = IsUnserved reply ⊎ ((r : KmsReply) × (reply ≡ reply_for reply.note r) × Holds (batch_act reply.note) r)

module _ {D W : Type 0} where
  -- The last entry of this number is the call, with the reply. At least `front` entries stand before it.
  pub record Got (front : ℕ) (q : KmsAct) (r : KmsReply) (number : ℕ) (seen : List (KmsEntry D W)) : Type 0 where
    pub before : List (KmsEntry D W)
    pub entry : KmsEntry D W
    pub after : List (KmsEntry D W)
    pub seen_is : seen ≡ before ++ entry ∷ after
    pub late : front ≤ length before
    pub by_is : entry.by ≡ number
    pub last : own number after ≡ []
    pub call_is : entry.call ≡ q
    pub reply_is : entry.reply ≡ key_acted.Call r

  -- a number that has just ended got the reply
  pub record Serves (front : ℕ) (q : KmsAct) (r : KmsReply) (s t : KmsKnown D W) : Type 0 where
    pub by : ℕ
    pub ended : IsIn by t.ended
    pub new : ¬ IsIn by s.ended
    pub got : Got front q r by t.seen

  -- the pass has got the reply to the call that the note wants
  pub record GotForNote (note : AskNote) (answered : Answered) (w : KmsKnown D W) : Type 0 where
    pub id : answered.id ≡ note.id
    pub got : IfWanted (λ q r. Got 0 q r w.number w.seen) (act_wanted note.want) answered.reply

  -- the pass has got the reply to the call that an open ask wants
  abbrev pub GotForAsk : Option OpenAsk → Option KmsReply → KmsKnown D W → Type 0
  GotForAsk None reply w = ⊤
  GotForAsk (Some a) reply w = IfWanted (λ q r. Got 0 q r w.number w.seen) (act_wanted a.want) reply

  -- the kept pass shows the reply to the call that an open ask wants
  abbrev pub ServesAsk : Option OpenAsk → Option KmsReply → KmsKnown D W → KmsKnown D W → Type 0
  ServesAsk None reply s t = ⊤
  ServesAsk (Some a) reply s t = IfWanted (λ q r. Serves 0 q r s t) (act_wanted a.want) reply

  -- the pass has got the reply to the call for the batch, after the front
  abbrev pub GotForBatch : ℕ → ReplyState → KmsKnown D W → Type 0
  GotForBatch front reply w = IfServed (λ q r. Got front q r w.number w.seen) reply

  -- the kept pass shows the reply to the call for the batch, after the front
  abbrev pub ServesBatch : ℕ → ReplyState → KmsKnown D W → KmsKnown D W → Type 0
  ServesBatch front reply s t = IfServed (λ q r. Serves front q r s t) reply
