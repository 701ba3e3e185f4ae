-- Each call is answered by a reply of its own kind, since its entry is a step.
use Rattle.std.specs.Prelude.{◌≡◌, ℕ, List, [], ◌∷◌, ◌++◌, Option, Some, None, Result}
use Rattle.std.proofs.Common.{refl, sym, ap, subst, ◌∙◌}
use Rattle.hk_base.specs.Disk.{DiskState}
use Rattle.hk_base.specs.declared.texts.Text.{Text}
use Rattle.name_calls.specs.declared.calls.Answered.{Answered}
use Rattle.name_calls.specs.declared.calls.Ask.{Ask}
use Rattle.name_calls.specs.declared.calls.AskNote.{AskNote}
use Rattle.name_calls.specs.declared.calls.NameCall.{NameCall}
use Rattle.name_calls.specs.declared.calls.NameRefusal.{NameRefusal}
use Rattle.name_calls.specs.declared.calls.NameReply.{NameReply}
use Rattle.name_calls.specs.declared.paths.NPath.{NPath}
use Rattle.name_calls.specs.declared.status.Delivered.{Delivered}
use Rattle.reenc_update.specs.Replies.{ReplyState}
use Rattle.name_core.specs.declared.walks.Walked.{Walked}
use Rattle.hist_cell.specs.declared.views.Entry.{Entry}
use Rattle.hist_cell.specs.History.{Lends, LegalAfter, LegalOf, Meets, Splits, TakesIn, state_after}
use Rattle.kms_cell.specs.Entries.{KmsKnown}
use Rattle.name_history.specs.Asked.{NameAllows}
use Rattle.name_history.specs.Entries.{Makes, MakesLending, MakesMeeting, NameKnown}
use Rattle.name_history.specs.Steps.{NameAnswers, NameDoes, NameSteps, TakesPass}
use Rattle.name_history.specs.Views.{NameView}
use Rattle.name_history.specs.declared.acts.NameAct.{NameAct}
use Rattle.name_history.specs.declared.acts.NameAct.TheVariants as act
use Rattle.name_history.specs.declared.acts.NameActed.{NameActed}
use Rattle.name_history.specs.declared.acts.NameActed.TheVariants as acted

module _ {Q R S : Type 0} (step : S → Q → R → S → Type 0) (allows : List (Entry Q R S) → Q → Type 0) where
  last_after : (before : List (Entry Q R S)) (s : S) (es : List (Entry Q R S)) (e : Entry Q R S) → LegalAfter step allows before s (es ++ e ∷ []) → step (state_after s es) e.call e.reply e.after
  last_after before s [] e legal = legal.1
  last_after before s (x ∷ es) e legal = last_after (before ++ x ∷ []) x.after es e legal.2

  -- the last entry is a step from the state before it
  last_step : (start : Option S) (es : List (Entry Q R S)) (e : Entry Q R S) → LegalOf step allows start (es ++ e ∷ []) → (first : S) × (start ≡ Some first) × step (state_after first es) e.call e.reply e.after
  last_step None es e legal = absurd legal
  last_step (Some s) es e legal = (s, refl, last_after [] s es e legal)

module _ {D W : Type 0} (state : D → DiskState) (to_come : W → ℕ → ℕ) where
  -- the entry of a call is a step from the state before it
  made_step : (v w : NameKnown D W) (q : NameAct) (r : NameActed) → (a : Makes state to_come v q r w)
      → (first : NameView D W) × (v.start ≡ Some first) × NameSteps state to_come (state_after first (v.seen ++ a.between)) q r a.entry.after
  made_step v w q r a =
      let last = last_step (NameSteps state to_come) (NameAllows {S = NameView D W}) w.start (v.seen ++ a.between) a.entry
      (subst (LegalOf (NameSteps state to_come) (NameAllows {S = NameView D W}) w.start) a.seen a.legal) in
      let before = state_after last.0 (v.seen ++ a.between) in (
        last.0,
        sym a.same.2 ∙ last.1,
        subst (λ (q : NameAct). NameSteps state to_come before q r a.entry.after) a.call_is
            (subst (λ (r : NameActed). NameSteps state to_come before a.entry.call r a.entry.after) a.reply_is last.2),
      )

  -- the state of the entry
  made_does : (v w : NameKnown D W) (q : NameAct) (r : NameActed) → Makes state to_come v q r w → (s : NameView D W) × (t : NameView D W) × NameDoes state s q r t
  made_does v w q r a = let made = made_step v w q r a in (state_after made.0 (v.seen ++ a.between), a.entry.after, made.2.does)

  call_reply : (user : Text) (c : NameCall) (r : NameActed) (s t : NameView D W) → NameDoes state s (act.Call user c) r t → (reply : NameReply) × (r ≡ acted.Call reply)
  call_reply user c (acted.Call reply) s t h = (reply, refl)
  call_reply user c (acted.Ask answer) s t h = absurd h
  call_reply user c (acted.Finish answer) s t h = absurd h
  call_reply user c (acted.Walk answer) s t h = absurd h
  call_reply user c (acted.Deliver answer) s t h = absurd h

  ask_reply : (user : Text) (a : Ask) (r : NameActed) (s t : NameView D W) → NameDoes state s (act.Ask user a) r t → (answer : Result AskNote NameRefusal) × (r ≡ acted.Ask answer)
  ask_reply user a (acted.Call reply) s t h = absurd h
  ask_reply user a (acted.Ask answer) s t h = (answer, refl)
  ask_reply user a (acted.Finish answer) s t h = absurd h
  ask_reply user a (acted.Walk answer) s t h = absurd h
  ask_reply user a (acted.Deliver answer) s t h = absurd h

  finish_reply : (answered : Answered) (r : NameActed) (s t : NameView D W) → NameDoes state s (act.Finish answered) r t → (answer : Result (Unit {0}) NameRefusal) × (r ≡ acted.Finish answer)
  finish_reply answered (acted.Call reply) s t h = absurd h
  finish_reply answered (acted.Ask answer) s t h = absurd h
  finish_reply answered (acted.Finish answer) s t h = (answer, refl)
  finish_reply answered (acted.Walk answer) s t h = absurd h
  finish_reply answered (acted.Deliver answer) s t h = absurd h

  walk_reply : (zone : NPath) (r : NameActed) (s t : NameView D W) → NameDoes state s (act.Walk zone) r t → (answer : Result Walked NameRefusal) × (r ≡ acted.Walk answer)
  walk_reply zone (acted.Call reply) s t h = absurd h
  walk_reply zone (acted.Ask answer) s t h = absurd h
  walk_reply zone (acted.Finish answer) s t h = absurd h
  walk_reply zone (acted.Walk answer) s t h = (answer, refl)
  walk_reply zone (acted.Deliver answer) s t h = absurd h

  deliver_reply : (front : ℕ) (reply : ReplyState) (r : NameActed) (s t : NameView D W) → NameDoes state s (act.Deliver front reply) r t → (answer : Result Delivered NameRefusal) × (r ≡ acted.Deliver answer)
  deliver_reply front reply (acted.Call answer) s t h = absurd h
  deliver_reply front reply (acted.Ask answer) s t h = absurd h
  deliver_reply front reply (acted.Finish answer) s t h = absurd h
  deliver_reply front reply (acted.Walk answer) s t h = absurd h
  deliver_reply front reply (acted.Deliver answer) s t h = (answer, refl)

  pub call_is_answered : (v w : NameKnown D W) (user : Text) (c : NameCall) (r : NameActed) → Makes state to_come v (act.Call user c) r w → (reply : NameReply) × (r ≡ acted.Call reply)
  call_is_answered v w user c r a = let made = made_does v w (act.Call user c) r a in call_reply user c r made.0 made.1 made.2

  pub ask_is_answered : (v w : NameKnown D W) (user : Text) (q : Ask) (r : NameActed) → Makes state to_come v (act.Ask user q) r w → (answer : Result AskNote NameRefusal) × (r ≡ acted.Ask answer)
  ask_is_answered v w user q r a = let made = made_does v w (act.Ask user q) r a in ask_reply user q r made.0 made.1 made.2

  pub finish_is_answered : (v w : NameKnown D W) (answered : Answered) (r : NameActed) → Makes state to_come v (act.Finish answered) r w → (answer : Result (Unit {0}) NameRefusal) × (r ≡ acted.Finish answer)
  finish_is_answered v w answered r a = let made = made_does v w (act.Finish answered) r a in finish_reply answered r made.0 made.1 made.2

  pub walk_is_answered : (v w : NameKnown D W) (zone : NPath) (r : NameActed) → Makes state to_come v (act.Walk zone) r w → (answer : Result Walked NameRefusal) × (r ≡ acted.Walk answer)
  walk_is_answered v w zone r a = let made = made_does v w (act.Walk zone) r a in walk_reply zone r made.0 made.1 made.2

  pub delivery_is_answered : (v w : NameKnown D W) (front : ℕ) (reply : ReplyState) (r : NameActed) → Makes state to_come v (act.Deliver front reply) r w → (answer : Result Delivered NameRefusal) × (r ≡ acted.Deliver answer)
  delivery_is_answered v w front reply r a = let made = made_does v w (act.Deliver front reply) r a in deliver_reply front reply r made.0 made.1 made.2

  -- ---- a pass of the keys was met in, or split off

  -- The state of the entry shows the pass that was met in.
  pub shows_meeting : {H : Type 0} (seen : H → KmsKnown D W) (v w : NameKnown D W) (with : H) (q : NameAct) (r : NameActed)
      → TakesIn (NameSteps state to_come) (NameAllows {S = NameView D W}) (λ (s : NameView D W) (h : H) (m : NameView D W). TakesPass state to_come s (seen h) m) (NameAnswers state to_come) v with q r w
      → MakesMeeting state to_come v (seen with) q r w
  shows_meeting seen v w with q r t = record {
    makes = t.acts;
    kept = (state_after t.first (v.seen ++ t.acts.between)).keys;
    meets = subst (Meets (state_after t.first (v.seen ++ t.acts.between)).keys (seen with)) (sym t.answered.keys) t.took.meets;
  }

  same-first : (o : Option (NameView D W)) (a b : NameView D W) → o ≡ Some a → o ≡ Some b → a ≡ b
  same-first None a b p q = absurd cc
  same-first (Some s) a b p q = cc

  -- The state of the entry of a walk shows what the pass has seen that was split off.
  pub shows_lending : {H : Type 0} (seen : H → KmsKnown D W) (v w : NameKnown D W) (zone : NPath) (r : NameActed) (lent : H)
      → Lends (NameSteps state to_come) (NameAllows {S = NameView D W}) (λ (s : NameView D W) (h : H). Splits s.keys (seen h)) v (act.Walk zone) r w lent
      → MakesLending state to_come v (act.Walk zone) r w (seen lent)
  shows_lending seen v w zone r lent l =
      let made = made_step v w (act.Walk zone) r l.acts in
      let before = ap (λ (s : NameView D W). (state_after s (v.seen ++ l.acts.between)).keys) (same-first v.start l.first made.0 l.first_is made.1) in
      record { makes = l.acts; splits = subst (λ (k : KmsKnown D W). Splits k (seen lent)) (before ∙ sym made.2.keeps) l.given }
