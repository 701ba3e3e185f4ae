-- Nodes in one list, named by their places in it, and their paths.
use Rattle.std.specs.Prelude.{◌≡◌, ℕ, ◌+◌, ◌-◌, ◌<◌, ◌≤◌, ◌||◌, zero, suc, true, ◌==◌, List, [], ◌∷◌, ◌++◌, length, map, slice_index_or, slice_set, take, Option, Some, None, if◌then◌else◌, String, ⊤}
use Rattle.std.specs.declared.cmp.Ordering.{Ordering}
use Rattle.std.specs.declared.cmp.Ordering.TheVariants.{Equal}
use Rattle.std.specs.Ordering.{nat_cmp, ordering_then}
use Rattle.std.specs.Cmp.Lexicographic.{slice_cmp}
use Rattle.inode_tree.specs.declared.rows.Link.{Link}
use Rattle.inode_tree.specs.declared.rows.Node.{Node}
use Rattle.inode_tree.specs.declared.near.Near.{Near}
use Rattle.inode_tree.specs.declared.rows.Kind.{Kind}
use Rattle.inode_tree.specs.declared.rows.Kind.TheVariants.{Dir}
use Rattle.std.specs.Vec.{vec_capacity}
use Rattle.std.specs.Global.{Global, Vec}
use Rattle.std.specs.HashMap.{HashMap, get, spare}
use Rattle.std.specs.Bool.{nat_eq}
use Rattle.std.specs.String.{string_capacity}
use Rattle.inode_tree.specs.Listed.{Listed}
use Rattle.inode_tree.specs.NodeList.{NodeList}
use Rattle.inode_tree.specs.Rows.{Entry, is_dir}
pub use Rattle.inode_tree.specs.Rows.{AllAfter, IsRising}
use Rattle.name_calls.specs.Paths.{is_before, is_prefix, is_relative, same_path}

abbrev pub blank : Node
blank = record { parent = 0; name = []; row = record { id = 0; kind = Dir None } }

abbrev pub node_at : List Node → ℕ → Node
node_at ns n = slice_index_or ns n blank

-- what a search reads of a node
abbrev pub link_at : List Node → ℕ → Link
link_at ns n = record { parent = (node_at ns n).parent; name = (node_at ns n).name }

-- the names from a node up to the root, in at most the given number of steps
unfoldable pub up : ℕ → List Node → ℕ → List (List ℕ)
up zero ns n = []
up (suc f) ns n = if n == 0 then [] else up f ns (node_at ns n).parent ++ ((node_at ns n).name ∷ [])

-- a path has at most 100 names
unfoldable pub path_of : List Node → ℕ → List (List ℕ)
path_of ns n = up 128 ns n

abbrev pub entry_at : List Node → ℕ → Entry
entry_at ns n = record { path = path_of ns n; row = (node_at ns n).row }

abbrev pub rows_of : List Node → List ℕ → List Entry
rows_of ns order = map (entry_at ns) order

-- each node's path is that of its directory and its name
pub record IsLinked (ns : List Node) : Type 0 where
  pub some : 0 < length ns
  pub below : (m : ℕ) → m < length ns → (node_at ns m).parent < length ns
  pub step : (m : ℕ) → m < length ns → (m ≡ 0 → ⊥) → path_of ns m ≡ path_of ns (node_at ns m).parent ++ ((node_at ns m).name ∷ [])

-- how two paths compare as far as both go
abbrev pub cmp_front : List (List ℕ) → List (List ℕ) → Ordering
cmp_front [] p = Equal
cmp_front (x ∷ q) [] = Equal
cmp_front (x ∷ q) (y ∷ p) = ordering_then (slice_cmp nat_cmp x y) (cmp_front q p)

-- how many rows come before a path
abbrev pub rank : List Entry → List (List ℕ) → ℕ
rank [] p = 0
rank (e ∷ es) p = if is_before e.path p then suc (rank es p) else 0

-- the rank of a path is one of the places from low up to high
abbrev pub HoldsRank : List Node → List ℕ → List (List ℕ) → ℕ → ℕ → Type 0
HoldsRank ns order p low high = (low ≤ rank (rows_of ns order) p) × (rank (rows_of ns order) p ≤ high) × (high ≤ length order)

-- the number of first rows that come before a path, or are at or below it
abbrev pub rank_past : List Entry → List (List ℕ) → ℕ
rank_past [] p = 0
rank_past (e ∷ es) p = if is_before e.path p || is_prefix p e.path then suc (rank_past es p) else 0

abbrev pub AllWithin : ℕ → List ℕ → Type 0
AllWithin n [] = ⊤
AllWithin n (k ∷ ks) = (k < n) × AllWithin n ks

-- how a name compares with the k-th of a path
abbrev pub name_cmp : List ℕ → List (List ℕ) → ℕ → Ordering
name_cmp x [] k = Equal
name_cmp x (y ∷ p) zero = slice_cmp nat_cmp x y
name_cmp x (y ∷ p) (suc k) = name_cmp x p k

-- the number of the row at a path
abbrev pub number_of : List Node → List ℕ → List (List ℕ) → Option ℕ
number_of ns [] p = None
number_of ns (n ∷ order) p = if same_path (path_of ns n) p then Some n else number_of ns order p

-- the node is a live one
abbrev pub IsLive : List ℕ → ℕ → Type 0
IsLive order n = (k : ℕ) × (k < length order) × (slice_index_or order k 0 ≡ n)

-- the nodes, the live ones in path order, and for each id its node
pub record IsTree (ns : List Node) (order : List ℕ) (ids : ℕ → Option ℕ) : Type 0 where
  pub linked : IsLinked ns
  pub within : AllWithin (length ns) order
  pub rising : IsRising (rows_of ns order)
  -- each live node's path keeps the rule
  pub ruled : (k : ℕ) → k < length order → is_relative (path_of ns (slice_index_or order k 0)) ≡ true
  -- the root has id 0, and is a directory
  pub root_is : (node_at ns 0).row.id ≡ 0
  pub root_dir : is_dir (node_at ns 0).row.kind ≡ true
  pub root_in : (node_at ns 0).parent ≡ 0
  -- the root is live
  pub rooted : (k : ℕ) × (k < length order) × (slice_index_or order k 0 ≡ 0)
  pub full : length order ≤ length ns
  pub few : length order ≤ 1000000
  -- each live node is found by its id
  pub named : (k : ℕ) → k < length order → ids (node_at ns (slice_index_or order k 0)).row.id ≡ Some (slice_index_or order k 0)
  -- and each node that is found is live and has that id
  pub stands : (id n : ℕ) → ids id ≡ Some n → (k : ℕ) × (k < length order) × (slice_index_or order k 0 ≡ n) × ((node_at ns n).row.id ≡ id)
  -- the parent of a live node is a directory
  pub nested : (k : ℕ) → k < length order → is_dir (node_at ns (node_at ns (slice_index_or order k 0)).parent).row.kind ≡ true
  -- and it is live
  pub housed : (k : ℕ) → k < length order → (j : ℕ) × (j < length order) × (slice_index_or order j 0 ≡ (node_at ns (slice_index_or order k 0)).parent)
  -- a node whose parent is not the root is live
  pub used : (m : ℕ) → m < length ns → ((node_at ns m).parent ≡ 0 → ⊥) → IsLive order m
  -- and so is one that has a name
  pub held : (m : ℕ) → m < length ns → (length (node_at ns m).name ≡ 0 → ⊥) → IsLive order m

-- the node is not the root's, and has the name in the directory
pub record IsChildNode (ns : List Node) (n parent : ℕ) (name : List ℕ) : Type 0 where
  pub below : n < length ns
  pub deep : n ≡ 0 → ⊥
  pub parent_is : (node_at ns n).parent ≡ parent
  pub name_is : (node_at ns n).name ≡ name
  pub named : length name ≡ 0 → ⊥

abbrev pub IsHint : List Node → ℕ → List ℕ → Option ℕ → Type 0
IsHint ns parent name None = ⊤
IsHint ns parent name (Some n) = IsChildNode ns n parent name

-- the nodes at a prefix of a path and above it
pub record IsNear (ns : List Node) (p : List (List ℕ)) (near : Near) : Type 0 where
  pub path : path_of ns near.node ≡ take near.depth p
  pub parent : path_of ns near.above ≡ take (near.depth - 1) p
  pub depth : near.depth ≤ length p

-- the nodes that are not live, each once
pub record IsFree (ns : List Node) (order free : List ℕ) : Type 0 where
  pub below : (k : ℕ) → k < length free → slice_index_or free k 0 < length ns
  pub unused : (k j : ℕ) → k < length free → j < length order → slice_index_or free k 0 ≡ slice_index_or order j 0 → ⊥
  pub once : (j k : ℕ) → j < k → k < length free → slice_index_or free j 0 ≡ slice_index_or free k 0 → ⊥
  pub count : length order + length free ≡ length ns
  pub most : length ns ≤ 1000001

-- the row at a place is not the root's, and has no children
pub record IsLeaf (ns : List Node) (order : List ℕ) (at : ℕ) : Type 0 where
  pub inside : at < length order
  pub deep : slice_index_or order at 0 ≡ 0 → ⊥
  pub none : (k : ℕ) → k < length order → (node_at ns (slice_index_or order k 0)).parent ≡ slice_index_or order at 0 → ⊥

-- a later place; each row between the places is below the row at the first
pub record IsSkip (ns : List Node) (order : List ℕ) (at next : ℕ) : Type 0 where
  pub after : at < next
  pub most : next ≤ length order
  pub below : (k : ℕ) → at < k → k < next → is_prefix (path_of ns (slice_index_or order at 0)) (path_of ns (slice_index_or order k 0)) ≡ true

-- the parts of a tree; there is memory to note each node that becomes free
pub record IsTreeKept {S : Type 0} (nodes : NodeList) (order : Listed) (places : HashMap ℕ ℕ S) (slots : Vec ℕ) : Type 0 where
  pub tree : IsTree nodes.items order.items (get nat_eq places)
  pub free : IsFree nodes.items order.items slots.items
  pub capacity : length nodes.items ≤ vec_capacity slots

-- there are a free node and memory for one more row, with a name of n bytes
abbrev pub HasTreeRoom : {S : Type 0} → Listed → HashMap ℕ ℕ S → Vec ℕ → String Global → ℕ → Type 0
HasTreeRoom order places free ready n = (0 < length free.items) × (0 < order.spare) × (0 < spare places) × (n ≤ string_capacity ready)

-- the nodes with another kind at n
abbrev pub rekind : List Node → ℕ → Kind → List Node
rekind ns n kind = slice_set ns n (record { parent = (node_at ns n).parent; name = (node_at ns n).name; row = record { id = (node_at ns n).row.id; kind = kind } })

-- the nodes with another directory and another name at n
abbrev pub with_place : List Node → ℕ → ℕ → List ℕ → List Node
with_place ns n parent name = slice_set ns n (record { parent = parent; name = name; row = (node_at ns n).row })
