-- What a pass that was lent for a batch has called, and what the pass shows into which it was met.
use Rattle.std.specs.Prelude.{◌≡◌, ◌≤◌, ℕ, List, [], ◌∷◌, ◌++◌, length}
use Rattle.std.proofs.Common.{inl, inr, refl, ap, sym, subst, ◌∙◌, arith}
use Rattle.hk_base.specs.Disk.{DiskState}
use Rattle.reenc_walk.specs.declared.sent.BatchNote.{BatchNote}
use Rattle.reenc_update.specs.Replies.{ReplyState}
use Rattle.hist_cell.specs.History.{Meets, Splits, own}
use Rattle.kms_cell.specs.Entries.{KmsEntry, KmsKnown, Makes}
use Rattle.kms_cell.specs.declared.acts.KmsAct.{KmsAct}
use Rattle.kms_cell.specs.declared.acts.KmsActed.{KmsActed}
use Rattle.name_history.specs.Served.{GotForBatch}
use Rattle.name_history.proofs.GotLemmas.{got_by_call, got_meets}
use Rattle.turns.specs.Turns.{AnswersBatch, ServesTurn}
use Rattle.cell_workers.specs.Batches.{AnswersFor, CallsForBatch, HasAnswer, HasServed, IsLent}

no_more : (m n : ℕ) → m ≡ n → m ≤ n
no_more m n same = omega (arith, same)

module _ {D W : Type 0} where
  calls_meet : (front : ℕ) (came : ReplyState) (v w into : KmsKnown D W) → CallsForBatch front came w.number w.seen → Meets v w into → CallsForBatch front came w.number into.seen
  calls_meet front came v w into (inl (none, no_call)) met = inl (none, met.that_own w.number (inl refl) ∙ no_call)
  calls_meet front came v w into (inr (r, is, got, one)) met = inr (r, is, got_meets front v w into _ r got met, ap length (met.that_own w.number (inl refl)) ∙ one)

  -- what came of a batch is shown by the pass into which the pass that has served it was met
  pub came_by_meeting : (front : ℕ) (came : ReplyState) (v w into : KmsKnown D W) → HasServed front came w → Meets v w into
      → (by : ℕ) × (earlier : List ℕ) × (into.ended ≡ earlier ++ by ∷ []) × CallsForBatch front came by into.seen
  came_by_meeting front came v w into (none_met, calls) met =
      (w.number, v.ended, met.ended ∙ ap (λ (l : List ℕ). v.ended ++ w.number ∷ l) none_met, calls_meet front came v w into calls met)

  -- a pass that has served a batch has got the reply
  pub got_of_served : (front : ℕ) (came : ReplyState) (w : KmsKnown D W) → HasServed front came w → GotForBatch front came w
  got_of_served front came w (none_met, inl (none, no_call)) = inl none
  got_of_served front came w (none_met, inr (r, is, got, one)) = inr (r, is, got)

  -- what a batch was answered with is shown by the pass into which the pass that has the answer was met
  pub answer_by_meeting : (front : ℕ) (came : ReplyState) (v w into : KmsKnown D W) → HasAnswer front came w → Meets v w into
      → (by : ℕ) × (earlier : List ℕ) × (into.ended ≡ earlier ++ by ∷ []) × AnswersFor front came by into.seen
  answer_by_meeting front came v w into (none_met, (r, is, got, one, lasting)) met = (
    w.number,
    v.ended,
    met.ended ∙ ap (λ (l : List ℕ). v.ended ++ w.number ∷ l) none_met,
    (r, is, got_meets front v w into _ r got met, ap length (met.that_own w.number (inl refl)) ∙ one, lasting),
  )

  -- a pass that has an answer has got the reply
  pub got_of_answer : (front : ℕ) (came : ReplyState) (w : KmsKnown D W) → HasAnswer front came w → GotForBatch front came w
  got_of_answer front came w (none_met, (r, is, got, one, lasting)) = inr (r, is, got)

  -- a pass that was split from one that a walk lent is as good as that
  pub lent_by_split : (front : ℕ) (lent w : KmsKnown D W) → IsLent front lent → Splits lent w → IsLent front w
  lent_by_split front lent w is splits = record { kept = lent; splits = splits; front_is = is.front_is ∙ sym (ap length splits.seen) }

  pub lent_same : (front : ℕ) (lent w : KmsKnown D W) → w ≡ lent → IsLent front lent → IsLent front w
  lent_same front lent w same is = subst (λ (x : KmsKnown D W). IsLent front x) (sym same) is

module _ {D W : Type 0} (state : D → DiskState) (to_come : W → ℕ → ℕ) where
  -- the answer is for the batch
  pub note_of_answer : (v w : KmsKnown D W) (batch : BatchNote) (came : ReplyState) → AnswersBatch state to_come v batch came w → came.note ≡ batch
  note_of_answer v w batch came answers = ap (λ (x : ReplyState). x.note) answers.result_is

  -- the reply is for the batch
  pub note_of_served : (v w : KmsKnown D W) (batch : BatchNote) (came : ReplyState) → ServesTurn state to_come v batch came w → came.note ≡ batch
  note_of_served v w batch came (inl served) = ap (λ (x : ReplyState). x.note) served.result_is
  note_of_served v w batch came (inr lacks) = ap (λ (x : ReplyState). x.note) lacks.result_is

  -- the first call of a pass
  one_call : (v w : KmsKnown D W) (q : KmsAct) (r : KmsActed) → own v.number v.seen ≡ [] → Makes state to_come v q r w → length (own w.number w.seen) ≡ 1
  one_call v w q r none a =
      let number : own w.number w.seen ≡ own v.number w.seen = ap (λ (n : ℕ). own n w.seen) a.same.0 in
      let first : own v.number v.seen ++ a.entry ∷ [] ≡ a.entry ∷ [] = ap (λ (l : List (KmsEntry D W)). l ++ a.entry ∷ []) none in
      ap length (number ∙ (a.mine ∙ first))

  -- a pass as a walk lent it has the answer to a batch
  pub answered_after_walk : (front : ℕ) (lent w : KmsKnown D W) (batch : BatchNote) (came : ReplyState) → IsLent front lent → AnswersBatch state to_come lent batch came w → HasAnswer front came w
  answered_after_walk front lent w batch came is answers = (
    answers.makes.same.1 ∙ is.splits.ended,
    subst (λ (x : ReplyState). AnswersFor front x w.number w.seen) (sym answers.result_is) (
      answers.reply,
      refl,
      got_by_call state to_come front lent w _ answers.reply (no_more front (length lent.seen) is.front_is) answers.makes,
      one_call lent w _ _ is.splits.no_own answers.makes,
      answers.lasting,
    ),
  )

  -- the pass that a walk lent has served the batch
  pub served_after_walk : (front : ℕ) (lent w : KmsKnown D W) (batch : BatchNote) (came : ReplyState) → IsLent front lent → ServesTurn state to_come lent batch came w → HasServed front came w
  served_after_walk front lent w batch came is (inl served) = (
    served.makes.same.1 ∙ is.splits.ended,
    subst (λ (x : ReplyState). CallsForBatch front x w.number w.seen) (sym served.result_is)
        (inr (
          served.reply,
          refl,
          got_by_call state to_come front lent w _ served.reply (no_more front (length lent.seen) is.front_is) served.makes,
          one_call lent w _ _ is.splits.no_own served.makes,
        )),
  )
  served_after_walk front lent w batch came is (inr lacks) = (
    ap (λ (x : KmsKnown D W). x.ended) lacks.same ∙ is.splits.ended,
    subst (λ (x : ReplyState). CallsForBatch front x w.number w.seen) (sym lacks.result_is)
        (inl (refl, ap (λ (x : KmsKnown D W). own x.number x.seen) lacks.same ∙ is.splits.no_own)),
  )
