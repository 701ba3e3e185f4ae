-- What a pass has seen once it has made an ask, and what another one has got once it has made the call that the ask wants.
use Rattle.std.specs.Prelude.{IfOk}
use Rattle.std.proofs.Common.{◌≡◌, ℕ, List, [], ◌∷◌, ◌++◌, Ok, inl, inr, ap, sym, subst, ◌∙◌, arith}
use Rattle.std.specs.declared.result.Result.{Result}
use Rattle.hk_base.specs.Disk.{DiskState}
use Rattle.hk_base.specs.declared.texts.NoMemory.{NoMemory}
use Rattle.hk_base.specs.declared.texts.Text.{Text}
use Rattle.kms_calls.specs.declared.calls.KmsCall.{KmsCall}
use Rattle.kms_calls.specs.declared.calls.KmsReply.{KmsReply}
use Rattle.name_calls.specs.declared.calls.Ask.{Ask}
use Rattle.name_calls.specs.declared.calls.AskNote.{AskNote}
use Rattle.name_calls.specs.declared.calls.NameRefusal.{NameRefusal}
use Rattle.name_core.specs.Calls.{superuser}
use Rattle.hist_cell.specs.declared.views.Entry.{Entry}
use Rattle.kms_cell.specs.Entries as keys
use Rattle.kms_cell.specs.declared.acts.KmsAct.TheVariants as key_act
use Rattle.kms_cell.specs.declared.acts.KmsActed.TheVariants as key_acted
use Rattle.name_history.specs.Asked.{HasNote, ReturnsNote}
use Rattle.name_history.specs.Entries as names
use Rattle.name_history.specs.Served.{Got}
use Rattle.name_history.specs.declared.acts.NameAct.{NameAct}
use Rattle.name_history.specs.declared.acts.NameAct.TheVariants as act
use Rattle.name_history.specs.declared.acts.NameActed.{NameActed}
use Rattle.name_history.specs.declared.acts.NameActed.TheVariants as acted
use Rattle.name_history.proofs.GotLemmas.{got_by_call}

note_end : {S : Type 0} (note : AskNote) (es : List (Entry NameAct NameActed S)) (e : Entry NameAct NameActed S) → ReturnsNote note e → HasNote note (es ++ e ∷ [])
note_end note [] e returns = inl returns
note_end note (x ∷ es) e returns = inr (note_end note es e returns)

module _ {D W : Type 0} (state : D → DiskState) (to_come : W → ℕ → ℕ) where
  -- a pass that made an ask has seen its note
  pub has_noted : (v w : names.NameKnown D W) (user : Text) (asked : Ask) (answer : Result AskNote NameRefusal) (note : AskNote) → names.Makes state to_come v (act.Ask user asked) (acted.Ask answer) w → answer ≡ Ok note
      → HasNote note w.seen
  has_noted v w user asked answer note a is =
      subst (HasNote note) (sym a.seen)
      (note_end note (v.seen ++ a.between) a.entry (record { user = user; ask = asked; call_is = a.call_is; reply_is = a.reply_is ∙ ap acted.Ask is }))

  -- a pass that made a call of the superuser has got the reply
  pub got_as_superuser : (v w : keys.KmsKnown D W) (made : Result Text NoMemory) (user : Text) (c : KmsCall) (reply : KmsReply) → IfOk made (λ u. u ≡ superuser) → made ≡ Ok user
      → keys.Makes state to_come v (key_act.Call user c) (key_acted.Call reply) w → Got 0 (key_act.Call superuser c) reply w.number w.seen
  got_as_superuser v w made user c reply super is a =
      let user_is : user ≡ superuser = subst (λ (r : Result Text NoMemory). IfOk r (λ u. u ≡ superuser)) is super in
      got_by_call state to_come 0 v w (key_act.Call superuser c) reply (omega arith)
      (subst (λ (u : Text). keys.Makes state to_come v (key_act.Call u c) (key_acted.Call reply) w) user_is a)
