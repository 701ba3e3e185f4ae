-- The places of a run, and of runs one after another.
use Rattle.std.proofs.Common.{◌≡◌, ℕ, zero, suc, ◌+◌, ◌*◌, ◌<◌, ◌≤◌, Bool, true, false, List, [], ◌∷◌, ◌++◌, length, get_or, Some, None, slice_get, set, refl, ap, sym, ◌∙◌, append_assoc, arith, length-append, inl, inr}
use Rattle.std.specs.Bool.{OnTrue}
use Rattle.std.specs.List.{concat}
use Rattle.std.proofs.lemmas.Bool.{cases_eq}
use Rattle.std.proofs.lemmas.List.{append-nil, get_or_append_left, get_or_at}
use Rattle.std.proofs.lemmas.List.Folds.{concat-append}
use Rattle.std.proofs.lemmas.Option.{slice_get-get_or, slice_get_past}
use Rattle.key_index.specs.Runs.{AreRuns, run_places}

pub length-run_places : (first step n : ℕ) → length (run_places first step n) ≡ n
length-run_places first step zero = refl
length-run_places first step (suc n) = length-append (run_places first step n) _ ∙ omega (arith, length-run_places first step n)

pub run_places-at : (first step n k : ℕ) → k < n → get_or (run_places first step n) k 0 ≡ first + step * k
run_places-at first step zero k h = absurd (omega arith)
run_places-at first step (suc n) k h = elim (cases_eq k n) [
  | inl last ↦ get_or_at (run_places first step n) (first + step * n) [] 0 k (length-run_places first step n ∙ sym last) ∙ ap (λ (i : ℕ). first + step * i) (sym last)
  | inr before ↦
      let within : k < n = omega arith in
      get_or_append_left (run_places first step n) _ 0 k (omega (arith, length-run_places first step n, within)) ∙ run_places-at first step n k within
]

pub in_run : (first step n k : ℕ) → k < n → slice_get (run_places first step n) k ≡ Some (first + step * k)
in_run first step n k h =
    let within : k < length (run_places first step n) = omega (arith, length-run_places first step n, h) in
    slice_get-get_or (run_places first step n) k 0 within ∙ ap (λ (p : ℕ). Some p) (run_places-at first step n k h)

pub after_run : (first step n k : ℕ) → n ≤ k → slice_get (run_places first step n) k ≡ None
after_run first step n k h = slice_get_past (run_places first step n) k (omega (arith, length-run_places first step n, h))

-- a place of the first run, and one after it

pub in_first : (run places : List ℕ) (k place : ℕ) → slice_get run k ≡ Some place → slice_get (run ++ places) k ≡ Some place
in_first [] places k place h = absurd cc
in_first (x ∷ run) places zero place h = h
in_first (x ∷ run) places (suc k) place h = in_first run places k place h

pub is_after : (run : List ℕ) (k : ℕ) → slice_get run k ≡ None → length run ≤ k
is_after [] k h = omega arith
is_after (x ∷ run) zero h = absurd cc
is_after (x ∷ run) (suc k) h = omega (arith, is_after run k h)

pub after_first : (run places : List ℕ) (k j : ℕ) → k ≡ length run + j → slice_get (run ++ places) k ≡ slice_get places j
after_first [] places k j e = ap (slice_get places) (omega (arith, e))
after_first (x ∷ run) places zero j e = absurd (omega (arith, e))
after_first (x ∷ run) places (suc k) j e = after_first run places k j (omega (arith, e))

-- there are no more runs than places
pub few_runs : (runs : List (List ℕ)) → AreRuns runs → length runs ≤ length (concat runs)
few_runs [] a = omega arith
few_runs (run ∷ runs) a = omega (arith, length-append run (concat runs), few_runs runs a.1, a.0)

-- one more place, in the last run and in a new one

in_last_run : (runs : List (List ℕ)) (at : ℕ) (run : List ℕ) (place : ℕ) → length runs ≡ at + 1 → run ≡ get_or runs at run
    → concat (set runs at (run ++ place ∷ [])) ≡ concat runs ++ place ∷ []
in_last_run [] at run place e is = absurd (omega (arith, e))
in_last_run (x ∷ []) zero run place e is = append-nil (run ++ place ∷ []) ∙ ap (λ (l : List ℕ). l ++ place ∷ []) (is ∙ sym (append-nil x))
in_last_run (x ∷ []) (suc at) run place e is = absurd (omega (arith, e))
in_last_run (x ∷ y ∷ runs) zero run place e is = absurd (omega (arith, e))
in_last_run (x ∷ y ∷ runs) (suc at) run place e is =
    ap (λ (l : List ℕ). x ++ l) (in_last_run (y ∷ runs) at run place (omega (arith, e)) is) ∙ sym (append_assoc x (concat (y ∷ runs)) (place ∷ []))

pub last_run_pushed : (pushed : Bool) (runs : List (List ℕ)) (at : ℕ) (run new : List ℕ) (place : ℕ) → length runs ≡ at + 1 → run ≡ get_or runs at run
    → OnTrue pushed (new ≡ run ++ place ∷ []) → OnTrue pushed (concat (set runs at new) ≡ concat runs ++ place ∷ [])
last_run_pushed true runs at run new place e is h = ap (λ (l : List ℕ). concat (set runs at l)) h ∙ in_last_run runs at run place e is
last_run_pushed false runs at run new place e is h = tt

pub in_new_run : (runs : List (List ℕ)) (place : ℕ) → concat (runs ++ (place ∷ []) ∷ []) ≡ concat runs ++ place ∷ []
in_new_run runs place = concat-append runs ((place ∷ []) ∷ [])
