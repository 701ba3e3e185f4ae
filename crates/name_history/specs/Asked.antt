-- Which calls a history allows: a finish needs the note of its ask, and a reply to the call that the note wants. And which pass of the keys a
-- call needs.
use Rattle.std.specs.Prelude.{◌≡◌, ◌⊎◌, ℕ, List, [], ◌∷◌, ◌++◌, Option, Some, None, Ok, ⊤}
use Rattle.std.proofs.Common.{inl, inr, subst}
use mathlib.Core.List.{IsPrefix}
use Rattle.hk_base.specs.declared.names.Edek.{Edek}
use Rattle.hk_base.specs.declared.texts.Text.{Text}
use Rattle.kms_calls.specs.declared.calls.KmsReply.{KmsReply}
use Rattle.kms_calls.specs.declared.calls.KmsReply.TheVariants as reply
use Rattle.name_calls.specs.declared.calls.Answered.{Answered}
use Rattle.name_calls.specs.declared.calls.Ask.{Ask}
use Rattle.name_calls.specs.declared.calls.AskNote.{AskNote}
use Rattle.name_calls.specs.declared.calls.Want.{Want}
use Rattle.name_calls.specs.declared.calls.Want.TheVariants as want
use Rattle.name_core.specs.declared.asks.OpenAsk.{OpenAsk}
use Rattle.hist_cell.specs.declared.views.Entry.{Entry}
use Rattle.kms_cell.specs.Entries.{KmsKnown}
use Rattle.name_history.specs.declared.acts.NameAct.{NameAct}
use Rattle.name_history.specs.declared.acts.NameAct.TheVariants as act
use Rattle.name_history.specs.declared.acts.NameActed.{NameActed}
use Rattle.name_history.specs.declared.acts.NameActed.TheVariants as acted
use Rattle.name_history.specs.Served.{GotForBatch, GotForNote}

-- one encrypted key, of the key with this name
abbrev pub IsOneOf : List ℕ → List Edek → Type 0
IsOneOf name (e ∷ []) = e.version.key ≡ name
IsOneOf name _ = ⊥

-- The reply answers the call that was wanted: a refusal or one encrypted key of that name, a refusal or the metadata of that name; or there
-- is none, if no call was wanted.
abbrev pub AnswersWant : Want → Option KmsReply → Type 0
AnswersWant want.Nothing None = ⊤
AnswersWant (want.Generate name) (Some (reply.Refused why)) = ⊤
AnswersWant (want.Generate name) (Some (reply.Ready edeks)) = IsOneOf name edeks
AnswersWant (want.Metadata name) (Some (reply.Refused why)) = ⊤
AnswersWant (want.Metadata name) (Some (reply.Metadata meta)) = meta.name ≡ name
AnswersWant _ _ = ⊥

-- the reply answers the call that an open ask wants
abbrev pub AnswersAsk : Option OpenAsk → Option KmsReply → Type 0
AnswersAsk None reply = ⊤
AnswersAsk (Some a) reply = AnswersWant a.want reply

-- the reply is for the ask of this note, and answers the call that it wants
pub record IsAnswered (note : AskNote) (answered : Answered) : Type 0 where
  pub id : answered.id ≡ note.id
  pub answers : AnswersWant note.want answered.reply

module _ {S : Type 0} where
  -- the entry is an ask that was answered with this note
  pub record ReturnsNote (note : AskNote) (e : Entry NameAct NameActed S) : Type 0 where
    pub user : Text
    pub ask : Ask
    pub call_is : e.call ≡ act.Ask user ask
    pub reply_is : e.reply ≡ acted.Ask (Ok note)

  -- an entry of the history is such an ask
  abbrev pub HasNote : AskNote → List (Entry NameAct NameActed S) → Type 0
  HasNote note [] = ⊥
  HasNote note (e ∷ es) = ReturnsNote note e ⊎ HasNote note es

  -- A finish may follow if an entry is an ask that was answered with the note of its id, and the reply answers the call that the note wants.
  -- Every other call may follow every history.
  abbrev pub NameAllows : List (Entry NameAct NameActed S) → NameAct → Type 0
  NameAllows es (act.Call user c) = ⊤
  NameAllows es (act.Ask user a) = ⊤
  NameAllows es (act.Finish answered) = (note : AskNote) × HasNote note es × IsAnswered note answered
  NameAllows es (act.Walk zone) = ⊤
  NameAllows es (act.Deliver front reply) = ⊤

  note_stays : (note : AskNote) (es more : List (Entry NameAct NameActed S)) → HasNote note es → HasNote note (es ++ more)
  note_stays note [] more h = absurd h
  note_stays note (e ∷ es) more h = elim h [
    | inl here ↦ inl here
    | inr later ↦ inr (note_stays note es more later)
  ]

  pub HasNote-grows : (note : AskNote) (es fs : List (Entry NameAct NameActed S)) → IsPrefix es fs → HasNote note es → HasNote note fs
  HasNote-grows note es fs p h = subst (HasNote note) p.1 (note_stays note es p.0 h)

  pub NameAllows-grows : (es fs : List (Entry NameAct NameActed S)) (q : NameAct) → IsPrefix es fs → NameAllows es q → NameAllows fs q
  NameAllows-grows es fs (act.Call user c) p a = tt
  NameAllows-grows es fs (act.Ask user q) p a = tt
  NameAllows-grows es fs (act.Finish answered) p a = (a.0, HasNote-grows a.0 es fs p a.1, a.2)
  NameAllows-grows es fs (act.Walk zone) p a = tt
  NameAllows-grows es fs (act.Deliver front reply) p a = tt

-- these calls need no pass of the keys
abbrev pub IsAlone : NameAct → Type 0
IsAlone (act.Call user c) = ⊤
IsAlone (act.Ask user a) = ⊤
IsAlone (act.Finish answered) = answered.reply ≡ None
IsAlone (act.Walk zone) = ⊤
IsAlone (act.Deliver front reply) = ⊥

module _ {S D W : Type 0} where
  -- A finish needs a pass that has got the reply to the call that the note wants, and a delivery one that has got the reply to the call for the
  -- batch.
  abbrev pub NameNeeds : List (Entry NameAct NameActed S) → NameAct → KmsKnown D W → Type 0
  NameNeeds es (act.Call user c) w = ⊥
  NameNeeds es (act.Ask user a) w = ⊥
  NameNeeds es (act.Finish answered) w = (note : AskNote) × HasNote note es × GotForNote note answered w
  NameNeeds es (act.Walk zone) w = ⊥
  NameNeeds es (act.Deliver front reply) w = GotForBatch front reply w

  pub NameNeeds-grows : (es fs : List (Entry NameAct NameActed S)) (q : NameAct) (w : KmsKnown D W) → IsPrefix es fs → NameNeeds es q w → NameNeeds fs q w
  NameNeeds-grows es fs (act.Call user c) w p n = n
  NameNeeds-grows es fs (act.Ask user a) w p n = n
  NameNeeds-grows es fs (act.Finish answered) w p n = (n.0, HasNote-grows n.0 es fs p n.1, n.2)
  NameNeeds-grows es fs (act.Walk zone) w p n = n
  NameNeeds-grows es fs (act.Deliver front reply) w p n = n
