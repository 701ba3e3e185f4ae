-- When the last run goes on at the next place.
use Rattle.std.proofs.Common.{◌≡◌, ℕ, zero, suc, ◌+◌, ◌*◌, ◌<◌, ◌⊎◌, inl, inr, List, [], ◌∷◌, ◌++◌, length, get_or, refl, ap, sym, ◌∙◌, append_assoc, arith, length-append}
use Rattle.std.specs.List.{concat}
use Rattle.std.proofs.lemmas.List.{append-nil, same_from_push}
use Rattle.key_index.specs.Runs.{AreRuns, GoesOn, IsSecond, run_places}
use Rattle.key_index.proofs.RunLemmas.{length-run_places}

-- the last two of a list
last_two : (xs ys : List ℕ) (a b x y : ℕ) → xs ++ a ∷ b ∷ [] ≡ ys ++ x ∷ y ∷ [] → (xs ≡ ys) × (a ≡ x) × (b ≡ y)
last_two xs ys a b x y e =
    let outer = same_from_push (xs ++ a ∷ []) (ys ++ x ∷ []) b y (append_assoc xs (a ∷ []) (b ∷ []) ∙ e ∙ sym (append_assoc ys (x ∷ []) (y ∷ []))) in
    let inner = same_from_push xs ys a x outer.0 in
    (inner.0, inner.1, outer.1)

-- a run is as long as its places
pub count_of : (first step count : ℕ) (places : List ℕ) → run_places first step count ≡ places → count ≡ length places
count_of first step count places is = sym (length-run_places first step count) ∙ ap (λ (l : List ℕ). length l) is

pub next_of_run : (first step count : ℕ) (places : List ℕ) (place : ℕ) → run_places first step count ≡ places → GoesOn places place → place ≡ first + step * count
next_of_run first step zero places place is g =
    absurd (omega (arith, count_of first step zero places is, ap (λ (l : List ℕ). length l) g.last_two, length-append g.before (g.from ∷ (g.from + g.step) ∷ [])))
next_of_run first step (suc zero) places place is g =
    absurd (omega (arith, count_of first step 1 places is, ap (λ (l : List ℕ). length l) g.last_two, length-append g.before (g.from ∷ (g.from + g.step) ∷ [])))
next_of_run first step (suc (suc count)) places place is g =
    let same = last_two (run_places first step count) g.before (first + step * count) (first + step * suc count) g.from (g.from + g.step) (sym (append_assoc (run_places first step count) _ _) ∙ is ∙ g.last_two) in
    omega (arith, same.1, same.2, g.next)

pub second_of_run : (first step count : ℕ) (places : List ℕ) (place : ℕ) → run_places first step count ≡ places → (g : IsSecond places place) → (count ≡ 1) × (place ≡ first + g.step)
second_of_run first step zero places place is g = absurd (omega (arith, count_of first step zero places is, ap (λ (l : List ℕ). length l) g.one))
second_of_run first step (suc zero) places place is g =
    let same = same_from_push [] [] (first + step * 0) g.from (is ∙ g.one) in
    (refl, omega (arith, same.1, g.next))
second_of_run first step (suc (suc count)) places place is g =
    absurd (omega (arith, count_of first step (suc (suc count)) places is, ap (λ (l : List ℕ). length l) g.one))

-- a run has one place, or ends in two
ends : (run : List ℕ) → 0 < length run → ((a : ℕ) × (run ≡ a ∷ [])) ⊎ ((before : List ℕ) × (a : ℕ) × (b : ℕ) × (run ≡ before ++ a ∷ b ∷ []))
ends [] some = absurd (omega (arith, some))
ends (a ∷ []) some = inl (a, refl)
ends (a ∷ b ∷ run) some = elim (ends (b ∷ run) (omega arith)) [
  | inl one ↦
      let same : b ∷ run ≡ b ∷ [] = cc one.1 in
      inr ([], a, b, ap (λ (l : List ℕ). a ∷ l) same)
  | inr two ↦ inr (a ∷ two.0, two.1, two.2, ap (λ (l : List ℕ). a ∷ l) two.3)
]

-- the places before the last run
before_last : (runs : List (List ℕ)) (at : ℕ) (run : List ℕ) → length runs ≡ at + 1 → run ≡ get_or runs at run → AreRuns runs
    → (before : List ℕ) × (concat runs ≡ before ++ run) × (0 < length run)
before_last [] at run e is a = absurd (omega (arith, e))
before_last (x ∷ []) zero run e is a = ([], append-nil x ∙ sym is, omega (arith, a.0, ap (λ (l : List ℕ). length l) is))
before_last (x ∷ []) (suc at) run e is a = absurd (omega (arith, e))
before_last (x ∷ y ∷ runs) zero run e is a = absurd (omega (arith, e))
before_last (x ∷ y ∷ runs) (suc at) run e is a =
    let rest = before_last (y ∷ runs) at run (omega (arith, e)) is a.1 in
    (x ++ rest.0, ap (λ (l : List ℕ). x ++ l) rest.1 ∙ sym (append_assoc x rest.0 run), rest.2)

pub next_of_last : (runs : List (List ℕ)) (at : ℕ) (run : List ℕ) (place : ℕ) → length runs ≡ at + 1 → run ≡ get_or runs at run → AreRuns runs
    → GoesOn (concat runs) place → GoesOn run place ⊎ IsSecond run place
next_of_last runs at run place e is a g =
    let cut = before_last runs at run e is a in
    elim (ends run cut.2) [
      | inl one ↦
          let same = same_from_push cut.0 (g.before ++ g.from ∷ []) one.0 (g.from + g.step)
          (ap (λ (l : List ℕ). cut.0 ++ l) (sym one.1) ∙ sym cut.1 ∙ g.last_two ∙ sym (append_assoc g.before (g.from ∷ []) ((g.from + g.step) ∷ []))) in
          inr (record { from = one.0; step = g.step; one = one.1; next = omega (arith, same.1, g.next); near = g.near })
      | inr two ↦
          let same = last_two (cut.0 ++ two.0) g.before two.1 two.2 g.from (g.from + g.step)
          (append_assoc cut.0 two.0 (two.1 ∷ two.2 ∷ []) ∙ ap (λ (l : List ℕ). cut.0 ++ l) (sym two.3) ∙ sym cut.1 ∙ g.last_two) in
          let last : two.2 ≡ two.1 + g.step = omega (arith, same.1, same.2) in
          inl (record {
            before = two.0;
            from = two.1;
            step = g.step;
            last_two = two.3 ∙ ap (λ (b : ℕ). two.0 ++ two.1 ∷ b ∷ []) last;
            next = omega (arith, same.1, g.next);
            near = g.near;
            few = omega (arith, ap (λ (l : List ℕ). length l) cut.1, length-append cut.0 run, g.few);
          })
    ]
