-- The places of a key, as runs of places at equal distances.
use Rattle.std.specs.Prelude.{◌≡◌, ℕ, zero, suc, ◌+◌, ◌*◌, ◌^◌, ◌<◌, List, [], ◌∷◌, ◌++◌, length}
use Rattle.std.specs.List.{AllByRecursion}

-- n places from the first one, each `step` above the one before
abbrev pub run_places : ℕ → ℕ → ℕ → List ℕ
run_places first step zero = []
run_places first step (suc n) = run_places first step n ++ (first + step * n) ∷ []

-- each run has a place, so there are no more runs than places
abbrev pub AreRuns : List (List ℕ) → Type 0
AreRuns runs = AllByRecursion (λ (run : List ℕ). 0 < length run) runs

-- the next place is as far from the last one as that is from the one before it
pub record GoesOn (places : List ℕ) (place : ℕ) : Type 0 where
  pub before : List ℕ
  pub from : ℕ
  pub step : ℕ
  pub last_two : places ≡ before ++ from ∷ (from + step) ∷ []
  pub next : place ≡ from + step + step
  pub near : step < 2 ^ 32
  pub few : length places + 1 < 2 ^ 32

-- the next place is the second one
pub record IsSecond (places : List ℕ) (place : ℕ) : Type 0 where
  pub from : ℕ
  pub step : ℕ
  pub one : places ≡ from ∷ []
  pub next : place ≡ from + step
  pub near : step < 2 ^ 32
