-- What the state of a finish shows of the call that its ask wants.
use Rattle.std.proofs.Common.{◌≡◌, ℕ, List, [], ◌∷◌, ◌++◌, length, Option, Some, None, inl, refl, ap, sym, subst, ◌∙◌, arith}
use Rattle.std.specs.declared.result.Result.{Result}
use Rattle.hk_base.specs.Disk.{DiskState}
use Rattle.hk_base.specs.declared.names.KeyName.{KeyName}
use Rattle.hk_base.specs.declared.texts.Text.{Text}
use Rattle.hist_cell.specs.History.{Meets, Splits, own}
use Rattle.kms_calls.specs.declared.calls.KmsCall.TheVariants as key_call
use Rattle.kms_calls.specs.declared.calls.KmsReply.{KmsReply}
use Rattle.name_calls.specs.declared.calls.AskNote.{AskNote}
use Rattle.name_calls.specs.declared.calls.NameRefusal.{NameRefusal}
use Rattle.name_calls.specs.declared.calls.Want.{Want}
use Rattle.name_calls.specs.declared.calls.Want.TheVariants as want
use Rattle.name_core.specs.Calls.{superuser}
use Rattle.kms_cell.specs.Entries as keys
use Rattle.kms_cell.specs.declared.acts.KmsAct.{KmsAct}
use Rattle.kms_cell.specs.declared.acts.KmsAct.TheVariants as key_act
use Rattle.kms_cell.specs.declared.acts.KmsActed.TheVariants as key_acted
use Rattle.name_history.specs.Asked.{AnswersWant}
use Rattle.name_history.specs.Entries as names
use Rattle.name_history.specs.Served.{Got, GotForNote, IfWanted, act_wanted}
use Rattle.name_history.proofs.GotLemmas.{got_by_call, got_meets}
use Rattle.name_history.specs.declared.acts.NameAct.TheVariants as act
use Rattle.name_history.specs.declared.acts.NameActed.TheVariants as acted
use Rattle.cell_desk.specs.Finishes.{FinishesAsk}
use Rattle.cell_desk.specs.Orders.{CallsOnce, ShowsWanted}

-- none was wanted, if there is no reply
none_wanted : (P Q : KmsAct → KmsReply → Type 0) (wanted : Option KmsAct) → IfWanted P wanted None → IfWanted Q wanted None
none_wanted P Q None h = tt
none_wanted P Q (Some q) h = absurd h

each_wanted : (P Q : KmsAct → KmsReply → Type 0) → ((q : KmsAct) (r : KmsReply) → P q r → Q q r) → (wanted : Option KmsAct) (given : Option KmsReply) → IfWanted P wanted given → IfWanted Q wanted given
each_wanted P Q each None None h = tt
each_wanted P Q each None (Some r) h = absurd h
each_wanted P Q each (Some q) None h = absurd h
each_wanted P Q each (Some q) (Some r) h = each q r h

module _ {D W : Type 0} where
  -- the pass has got the reply to the call that was wanted, and made no other call
  abbrev HasGot : keys.KmsKnown D W → Want → Option KmsReply → Type 0
  HasGot w wanted given = IfWanted (λ (q : KmsAct) (r : KmsReply). CallsOnce q r w.number w.seen) (act_wanted wanted) given

  pub nothing_got : (w : keys.KmsKnown D W) (wanted : Want) → wanted ≡ want.Nothing → HasGot w wanted None
  nothing_got w wanted is = subst (λ (x : Want). HasGot w x None) (sym is) tt

  pub got_for_note : (w : keys.KmsKnown D W) (note : AskNote) (given : Option KmsReply) (reply : KmsReply) → HasGot w note.want given → given ≡ Some reply → GotForNote note (record { id = note.id; reply = Some reply }) w
  got_for_note w note given reply got is = record {
    id = refl;
    got = each_wanted (λ (q : KmsAct) (r : KmsReply). CallsOnce q r w.number w.seen) (λ (q : KmsAct) (r : KmsReply). Got 0 q r w.number w.seen) (λ q r once. once.0)
        (act_wanted note.want) (Some reply) (subst (HasGot w note.want) is got);
  }

  -- the number that ended last made this call and no other
  abbrev Shows : keys.KmsKnown D W → KmsAct → KmsReply → Type 0
  Shows kept q r = (by : ℕ) × (earlier : List ℕ) × (kept.ended ≡ earlier ++ by ∷ []) × CallsOnce q r by kept.seen

  got_shown : (kept w into : keys.KmsKnown D W) (q : KmsAct) (r : KmsReply) → Meets kept w into → w.ended ≡ [] → CallsOnce q r w.number w.seen → Shows into q r
  got_shown kept w into q r meets none_met once = (
    w.number,
    kept.ended,
    meets.ended ∙ ap (λ (l : List ℕ). kept.ended ++ w.number ∷ l) none_met,
    (got_meets 0 kept w into q r once.0 meets, ap length (meets.that_own w.number (inl refl)) ∙ once.1),
  )

  wanted_shown : (kept w into : keys.KmsKnown D W) (wanted : Want) (given : Option KmsReply) → Meets kept w into → w.ended ≡ [] → HasGot w wanted given → ShowsWanted wanted given into
  wanted_shown kept w into wanted given meets none_met got =
      each_wanted (λ (q : KmsAct) (r : KmsReply). CallsOnce q r w.number w.seen) (Shows into) (λ (q : KmsAct) (r : KmsReply). got_shown kept w into q r meets none_met) (act_wanted wanted) given got

module _ {D W : Type 0} (state : D → DiskState) (to_come : W → ℕ → ℕ) where
  -- the first call of a pass that was split from another one
  called_once : (kept v w : keys.KmsKnown D W) (q : KmsAct) (r : KmsReply) → Splits kept v → keys.Makes state to_come v q (key_acted.Call r) w → CallsOnce q r w.number w.seen
  called_once kept v w q r splits a =
      let number : own w.number w.seen ≡ own v.number w.seen = ap (λ (n : ℕ). own n w.seen) a.same.0 in
      let none : own v.number v.seen ++ a.entry ∷ [] ≡ a.entry ∷ [] = ap (λ (l : List (keys.KmsEntry D W)). l ++ a.entry ∷ []) splits.no_own in
      (got_by_call state to_come 0 v w q r (omega arith) a, ap length (number ∙ (a.mine ∙ none)))

  pub generated_got : (kept v w : keys.KmsKnown D W) (user : Text) (name : KeyName) (reply : KmsReply) (wanted : Want) → Splits kept v → user ≡ superuser → wanted ≡ want.Generate name
      → keys.Makes state to_come v (key_act.Call user (key_call.Generate name 1)) (key_acted.Call reply) w → HasGot w wanted (Some reply)
  generated_got kept v w user name reply wanted splits user_is is a =
      subst (λ (x : Want). HasGot w x (Some reply)) (sym is)
      (called_once kept v w (key_act.Call superuser (key_call.Generate name 1)) reply splits
      (subst (λ (u : Text). keys.Makes state to_come v (key_act.Call u (key_call.Generate name 1)) (key_acted.Call reply) w) user_is a))

  pub metadata_got : (kept v w : keys.KmsKnown D W) (user : Text) (name : KeyName) (reply : KmsReply) (wanted : Want) → Splits kept v → user ≡ superuser → wanted ≡ want.Metadata name
      → keys.Makes state to_come v (key_act.Call user (key_call.Metadata name)) (key_acted.Call reply) w → HasGot w wanted (Some reply)
  metadata_got kept v w user name reply wanted splits user_is is a =
      subst (λ (x : Want). HasGot w x (Some reply)) (sym is)
      (called_once kept v w (key_act.Call superuser (key_call.Metadata name)) reply splits
      (subst (λ (u : Text). keys.Makes state to_come v (key_act.Call u (key_call.Metadata name)) (key_acted.Call reply) w) user_is a))

  -- a finish with no reply
  pub finished_alone : (k : keys.KmsKnown D W) (v w : names.NameKnown D W) (note : AskNote) (given : Option KmsReply) (result : Result (Unit {0}) NameRefusal) → HasGot k note.want given → AnswersWant note.want given → given ≡ None
      → names.Makes state to_come v (act.Finish (record { id = note.id; reply = None })) (acted.Finish result) w → FinishesAsk state to_come v note result w
  finished_alone k v w note given result got answers is a = record {
    given = None;
    makes = a;
    answers = subst (AnswersWant note.want) is answers;
    shows = none_wanted (λ (q : KmsAct) (r : KmsReply). CallsOnce q r k.number k.seen) (Shows a.entry.after.keys) (act_wanted note.want) (subst (HasGot k note.want) is got);
  }

  -- a finish with the reply that a pass has got, which was met into the kept one
  pub finished_meeting : (k : keys.KmsKnown D W) (v w : names.NameKnown D W) (note : AskNote) (given : Option KmsReply) (reply : KmsReply) (result : Result (Unit {0}) NameRefusal) → HasGot k note.want given → k.ended ≡ []
      → AnswersWant note.want given → given ≡ Some reply → names.MakesMeeting state to_come v k (act.Finish (record { id = note.id; reply = Some reply })) (acted.Finish result) w → FinishesAsk state to_come v note result w
  finished_meeting k v w note given reply result got none_met answers is m = record {
    given = Some reply;
    makes = m.makes;
    answers = subst (AnswersWant note.want) is answers;
    shows = wanted_shown m.kept k m.makes.entry.after.keys note.want (Some reply) m.meets none_met (subst (HasGot k note.want) is got);
  }
