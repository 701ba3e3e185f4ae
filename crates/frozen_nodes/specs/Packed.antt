-- Frozen nodes in memory: the names of all nodes lie in one list, and their kids in another.
use Rattle.std.specs.Prelude.{ℕ, ◌+◌, ◌-◌, ◌≤◌, List, [], ◌∷◌, map, take, drop, ⊤}
use Rattle.std.specs.Vec.{vec_capacity, vec_len}
use Rattle.std.specs.Global.{Vec}
use Rattle.frozen_nodes.specs.Forest.{FrozenNode}
use Rattle.inode_tree.specs.declared.rows.Row.{Row}

-- a row, and where its name and its kids lie
pub record PlacedNode : Type 0 where
  pub row : Row
  pub name : ℕ
  pub name_len : ℕ
  pub kids : ℕ
  pub kid_count : ℕ

-- for how many more elements a list has memory
abbrev pub spare : {X : Type 0} → Vec X → ℕ
spare xs = vec_capacity xs - vec_len xs

-- count elements from a place on, or as many as there are
abbrev pub part : {X : Type 0} → ℕ → ℕ → List X → List X
part from count xs = take count (drop from xs)

abbrev pub node_in : List ℕ → List ℕ → PlacedNode → FrozenNode
node_in names kids n = record { name = part n.name n.name_len names; row = n.row; kids = part n.kids n.kid_count kids }

abbrev pub nodes_in : List ℕ → List ℕ → List PlacedNode → List FrozenNode
nodes_in names kids ns = map (node_in names kids) ns

-- the names lie within the first a bytes, and the kids within the first b numbers
abbrev pub AllInside : ℕ → ℕ → List PlacedNode → Type 0
AllInside a b [] = ⊤
AllInside a b (n ∷ ns) = (n.name + n.name_len ≤ a) × (n.kids + n.kid_count ≤ b) × AllInside a b ns

-- for how many more nodes, and for how many kids and bytes of names of them, there is memory
pub record ForestRoom : Type 0 where
  pub nodes : ℕ
  pub kids : ℕ
  pub bytes : ℕ

pub record ForestState : Type 0 where
  pub nodes : List FrozenNode
  pub room : ForestRoom

-- there is memory for so many more nodes, kids and bytes of names
pub record HasForestRoom (nodes kids bytes : ℕ) (room : ForestRoom) : Type 0 where
  pub nodes_fit : nodes ≤ room.nodes
  pub kids_fit : kids ≤ room.kids
  pub bytes_fit : bytes ≤ room.bytes

-- the room has become less by so much at most
pub record IsLess (nodes kids bytes : ℕ) (old new : ForestRoom) : Type 0 where
  pub nodes_less : old.nodes ≤ new.nodes + nodes
  pub kids_less : old.kids ≤ new.kids + kids
  pub bytes_less : old.bytes ≤ new.bytes + bytes
