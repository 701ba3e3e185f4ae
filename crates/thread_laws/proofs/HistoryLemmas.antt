-- Histories in parts: what stands before an entry, the entry, and what comes after it.
use Rattle.std.proofs.Common.{◌≡◌, ℕ, List, [], ◌∷◌, ◌++◌, refl, sym, subst, append_assoc, append-nil}
use mathlib.Core.List.{IsPrefix}
use Rattle.hk_base.specs.Disk.{DiskState}
use Rattle.hist_cell.specs.declared.views.Entry.{Entry}
use Rattle.hist_cell.specs.History.{IsIn, LegalAfter, state_after}
use Rattle.hist_cell.proofs.Lists.{prefix_self, prefix_trans}
use Rattle.name_history.specs.Asked.{NameAllows}
use Rattle.name_history.specs.Entries.{NameEntry}
use Rattle.name_history.specs.Steps.{NameSteps}
use Rattle.name_history.specs.Views.{NameView}

module _ {Q R S : Type 0} where
  pub state_after-both : (s : S) (es fs : List (Entry Q R S)) → state_after s (es ++ fs) ≡ state_after (state_after s es) fs
  state_after-both s [] fs = refl
  state_after-both s (e ∷ es) fs = state_after-both e.after es fs

  module _ (step : S → Q → R → S → Type 0) (allows : List (Entry Q R S) → Q → Type 0) where
    -- the first part of a history
    pub legal-first : (before es fs : List (Entry Q R S)) (s : S) → LegalAfter step allows before s (es ++ fs) → LegalAfter step allows before s es
    legal-first before [] fs s l = tt
    legal-first before (e ∷ es) fs s l = (l.0, l.1, legal-first (before ++ e ∷ []) es fs e.after l.2)

    -- and the second part
    pub legal-second : (before es fs : List (Entry Q R S)) (s : S) → LegalAfter step allows before s (es ++ fs) → LegalAfter step allows (before ++ es) (state_after s es) fs
    legal-second before [] fs s l = subst (λ (b : List (Entry Q R S)). LegalAfter step allows b s fs) (sym (append-nil before)) l
    legal-second before (e ∷ es) fs s l =
        subst (λ (b : List (Entry Q R S)). LegalAfter step allows b (state_after e.after es) fs) (append_assoc before (e ∷ []) es) (legal-second (before ++ e ∷ []) es fs e.after l.2)

module _ {D W : Type 0} (state : D → DiskState) (to_come : W → ℕ → ℕ) where
  abbrev Legal : List (NameEntry D W) → NameView D W → List (NameEntry D W) → Type 0
  Legal before v es = LegalAfter (NameSteps {D = D} {W = W} state to_come) (NameAllows {S = NameView D W}) before v es

  -- the kept pass only gains ended numbers
  pub ended-grows : (before es : List (NameEntry D W)) (v : NameView D W) (k : ℕ) → Legal before v es → IsIn k v.keys.ended → IsIn k (state_after v es).keys.ended
  ended-grows before [] v k l i = i
  ended-grows before (e ∷ es) v k l i = ended-grows (before ++ e ∷ []) es e.after k l.2 (l.1.grows.ended k i)

  -- and entries
  pub seen-grows : (before es : List (NameEntry D W)) (v : NameView D W) → Legal before v es → IsPrefix v.keys.seen (state_after v es).keys.seen
  seen-grows before [] v l = prefix_self v.keys.seen
  seen-grows before (e ∷ es) v l = prefix_trans v.keys.seen e.after.keys.seen (state_after e.after es).keys.seen l.1.grows.begins (seen-grows (before ++ e ∷ []) es e.after l.2)

  -- the entry between the parts is a step
  pub step-at : (before after : List (NameEntry D W)) (v : NameView D W) (e : NameEntry D W) → Legal [] v (before ++ e ∷ after) → NameSteps state to_come (state_after v before) e.call e.reply e.after
  step-at before after v e l = (legal-second (NameSteps {D = D} {W = W} state to_come) (NameAllows {S = NameView D W}) [] before (e ∷ after) v l).1

  pub seen-between : (earlier rest : List (NameEntry D W)) (v : NameView D W) → Legal [] v (earlier ++ rest) → IsPrefix (state_after v earlier).keys.seen (state_after v (earlier ++ rest)).keys.seen
  seen-between earlier rest v l =
      subst (λ (s : NameView D W). IsPrefix (state_after v earlier).keys.seen s.keys.seen) (sym (state_after-both v earlier rest))
      (seen-grows earlier rest (state_after v earlier) (legal-second (NameSteps {D = D} {W = W} state to_come) (NameAllows {S = NameView D W}) [] earlier rest v l))
