-- The nodes that are left when others are removed.
use Rattle.std.specs.Prelude.{◌≡◌, ℕ, ◌<◌, zero, suc, Bool, true, List, [], ◌∷◌, map, if◌then◌else◌, ⊤}
use Rattle.std.specs.List.{AllByRecursion}
use Rattle.frozen_nodes.specs.Forest.{FrozenNode}

-- the nodes that a test marks are left, in their order: the new number of a node is how many marked ones come before it
abbrev pub new_number : (ℕ → Bool) → ℕ → ℕ
new_number mark zero = 0
new_number mark (suc k) = if mark k then suc (new_number mark k) else new_number mark k

abbrev pub renumbered : (ℕ → Bool) → FrozenNode → FrozenNode
renumbered mark n = record n { kids = map (new_number mark) n.kids }

-- the marked ones of the nodes from the i-th on
abbrev pub kept_from : (ℕ → Bool) → ℕ → List FrozenNode → List FrozenNode
kept_from mark i [] = []
kept_from mark i (n ∷ ns) = if mark i then renumbered mark n ∷ kept_from mark (suc i) ns else kept_from mark (suc i) ns

abbrev pub kept : (ℕ → Bool) → List FrozenNode → List FrozenNode
kept mark ns = kept_from mark 0 ns

-- a kid of the i-th node comes before it, and is marked
pub record IsKidKept (mark : ℕ → Bool) (i k : ℕ) : Type 0 where
  pub below : k < i
  pub marked : mark k ≡ true

-- the kids of each marked node are marked
abbrev pub AreKidsMarked : (ℕ → Bool) → ℕ → List FrozenNode → Type 0
AreKidsMarked mark i [] = ⊤
AreKidsMarked mark i (n ∷ ns) = (mark i ≡ true → AllByRecursion (IsKidKept mark i) n.kids) × AreKidsMarked mark (suc i) ns
