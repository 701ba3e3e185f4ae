-- Ids as runs of numbers.
use Rattle.std.specs.Prelude.{◌≤◌, ◌<◌, ℕ, Bool, nat_le, ◌&&◌, List, [], ◌∷◌, ⊤}
use Rattle.std.specs.List.{AllByRecursion, list_any}
use Rattle.name_store.specs.declared.runs.Run.{Run}

-- the run has the id
abbrev pub is_in : ℕ → Run → Bool
is_in id run = nat_le run.first id && nat_le id run.last

-- one of the runs has the id
abbrev pub is_in_runs : List Run → ℕ → Bool
is_in_runs runs id = list_any (is_in id) runs

-- no run ends before it begins, and each ends before all later ones begin
abbrev pub AreRunsRising : List Run → Type 0
AreRunsRising [] = ⊤
AreRunsRising (run ∷ runs) = (run.first ≤ run.last) × AllByRecursion (λ (later : Run). run.last < later.first) runs × AreRunsRising runs
