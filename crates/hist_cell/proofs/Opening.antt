-- The rule holds at first.
use Rattle.std.proofs.Common.{◌≡◌, ℕ, zero, suc, List, [], ◌∷◌, refl, ap, sym, ◌∙◌, subst}
use mathlib.Core.Option.{some, some-injective, some-ne-none}
use lib.ListN.{get_elem?}
use Rattle.atomic_table.specs.Table.{opening}
use Rattle.hist_cell.specs.declared.views.Entry.{Entry}
use Rattle.hist_cell.specs.declared.views.View.{View}
use Rattle.hist_cell.specs.History.{IsIn, Fits, HasTurn, KeepsRule, first_view}

module _ {Q R S : Type 0} where
  only_first : (start : S) (i : ℕ) (u : View Q R S) → get_elem? (first_view start ∷ []) i ≡ some u → (i ≡ 0) × (first_view start ≡ u)
  only_first start zero u got = (refl, some-injective _ u got)
  only_first start (suc i) u got = absurd (some-ne-none u (sym got))

  pub opens : (step : S → Q → R → S → Type 0) (allows : List (Entry Q R S) → Q → Type 0) (start : S) → KeepsRule step allows start (opening (0 ∷ []) [] (first_view start))
  opens step allows start = record {
    log = [];
    words = refl;
    legal = tt;
    starts = λ i u got lives. (sym (ap (λ y. y.start) (only_first start i u got).1), sym (ap (λ y. y.begun) (only_first start i u got).1));
    fits = λ i u got. subst (Fits []) (only_first start i u got).1 (record { begins = ([], refl); all_own = λ k m. absurd m; base_begins = ([], refl); base_own = λ k m. refl; distinct = tt });
    turn = λ i u got t. subst (HasTurn [] (first_view start ∷ [])) (only_first start i u got).1 (record {
      alive = refl;
      all = refl;
      below = λ j x got' k m. absurd (subst (λ (y : View Q R S). IsIn k y.numbers) (sym (only_first start j x got').1) m);
      fresh = λ k le. refl;
    });
    one = λ i j a b x y p q. (only_first start i a x).0 ∙ sym (only_first start j b y).0;
    apart = λ i j a b x y k p q. (only_first start i a x).0 ∙ sym (only_first start j b y).0;
  }
