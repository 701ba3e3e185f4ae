-- Nodes that are copied from one forest to another.
use Rattle.std.specs.Prelude.{◌≡◌, ℕ, ◌<◌, ◌≤◌, ◌⊎◌, List, [], ◌∷◌, length, Option, Some, slice_get, ⊤}
use Rattle.frozen_nodes.specs.Forest.{FrozenNode, KeepsNodes, node_at, rows_from}

-- a node of a forest has the name and the rows of one of another
pub record IsMoved (old new : List FrozenNode) (k m : ℕ) : Type 0 where
  pub within : m < length new
  pub name : (node_at new m).name ≡ (node_at old k).name
  pub rows : rows_from new m ≡ rows_from old k

-- each of the nodes has the name and the rows of one of the others, in their order
abbrev pub AllMoved : List FrozenNode → List FrozenNode → List ℕ → List ℕ → Type 0
AllMoved old new [] [] = ⊤
AllMoved old new [] (m ∷ ms) = ⊥
AllMoved old new (k ∷ ks) [] = ⊥
AllMoved old new (k ∷ ks) (m ∷ ms) = IsMoved old new k m × AllMoved old new ks ms

-- the new numbers of nodes, of those that have one
abbrev pub AreNumbers : List FrozenNode → List FrozenNode → List (Option ℕ) → Type 0
AreNumbers old new numbers = (k m : ℕ) → slice_get numbers k ≡ Some (Some m) → IsMoved old new k m

-- a node with those below it was copied
pub record MovesNode (old ns ms : List FrozenNode) (numbers : List (Option ℕ)) (n m : ℕ) : Type 0 where
  pub count : length numbers ≡ length old
  pub numbered : AreNumbers old ms numbers
  pub kept : KeepsNodes ns ms
  pub moved : IsMoved old ms n m

abbrev pub IsAmong : List ℕ → ℕ → Type 0
IsAmong [] n = ⊥
IsAmong (k ∷ ks) n = (k ≡ n) ⊎ IsAmong ks n

-- from a node to one of its kids, to one of that node's kids, and so on
abbrev pub LeadsTo : List FrozenNode → ℕ → List ℕ → ℕ → Type 0
LeadsTo ns n [] m = n ≡ m
LeadsTo ns n (k ∷ ks) m = (n < length ns) × IsAmong (node_at ns n).kids k × LeadsTo ns k ks m

-- kids lead from one of the roots to the node
pub record IsReached (ns : List FrozenNode) (roots : List ℕ) (n : ℕ) : Type 0 where
  pub root : ℕ
  pub among : IsAmong roots root
  pub steps : List ℕ
  pub leads : LeadsTo ns root steps n

-- each node after the first ones is reached from the roots
abbrev pub AllReached : ℕ → List FrozenNode → List ℕ → Type 0
AllReached first ns roots = (n : ℕ) → first ≤ n → n < length ns → IsReached ns roots n
