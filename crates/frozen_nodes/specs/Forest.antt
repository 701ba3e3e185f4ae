-- Frozen nodes in one list, each after its kids, and the rows at and below each.
use Rattle.std.specs.Prelude.{◌≡◌, ℕ, ◌<◌, ◌≤◌, true, List, [], ◌∷◌, ◌++◌, length, map, slice_index_or, Option, Some, None, ⊤}
use Rattle.std.specs.List.{find}
use Rattle.std.specs.Option.{option_and_then}
use Rattle.std.specs.Ordering.{is_lt, nat_cmp}
use Rattle.std.specs.Cmp.Lexicographic.{slice_cmp}
use Rattle.std.specs.Str.{bytes_eq}
use Rattle.inode_tree.specs.declared.rows.Row.{Row}
use Rattle.inode_tree.specs.declared.rows.Kind.TheVariants.{Dir}
use Rattle.inode_tree.specs.Rows.{Entry, is_dir}
use Rattle.name_calls.specs.declared.listing.Child.{Child}
use Rattle.name_calls.specs.Paths.{is_component}

-- a row, the last name of its path, and the numbers of the nodes of its children
pub record FrozenNode : Type 0 where
  pub name : List ℕ
  pub row : Row
  pub kids : List ℕ

abbrev pub no_node : FrozenNode
no_node = record { name = []; row = record { id = 0; kind = Dir None }; kids = [] }

-- the node with a number
abbrev pub node_at : List FrozenNode → ℕ → FrozenNode
node_at ns n = slice_index_or ns n no_node

-- a node's name, and the rows at and below it, with paths relative to it
pub record Subtree : Type 0 where
  pub name : List ℕ
  pub rows : List Entry

abbrev pub no_subtree : Subtree
no_subtree = record { name = []; rows = [] }

abbrev pub subtree_at : List Subtree → ℕ → Subtree
subtree_at done k = slice_index_or done k no_subtree

-- a row as it is seen from the directory above
abbrev pub under : List ℕ → Entry → Entry
under name e = record e { path = name ∷ e.path }

-- the rows at and below kids, as they are seen from the directory that they are in
abbrev pub kid_rows : (ℕ → Subtree) → List ℕ → List Entry
kid_rows at [] = []
kid_rows at (k ∷ ks) = map (under (at k).name) (at k).rows ++ kid_rows at ks

-- a node's own row has the empty path; the rows of its kids follow
abbrev pub subtree_of : List Subtree → FrozenNode → Subtree
subtree_of done n = record { name = n.name; rows = record { path = []; row = n.row } ∷ kid_rows (subtree_at done) n.kids }

abbrev pub subtrees_after : List Subtree → List FrozenNode → List Subtree
subtrees_after done [] = done
subtrees_after done (n ∷ ns) = subtrees_after (done ++ subtree_of done n ∷ []) ns

abbrev pub subtrees : List FrozenNode → List Subtree
subtrees ns = subtrees_after [] ns

-- the rows at and below a node, with paths relative to it
unfoldable pub rows_from : List FrozenNode → ℕ → List Entry
rows_from ns n = (subtree_at (subtrees ns) n).rows

-- the rows at and below a node with these kids, by the rows of the kids
unfoldable pub rows_of_node : List FrozenNode → FrozenNode → List Entry
rows_of_node ns n = record { path = []; row = n.row } ∷ kid_rows (subtree_at (subtrees ns)) n.kids

-- the nodes stay, and keep their rows; there may be more
pub record KeepsNodes (old new : List FrozenNode) : Type 0 where
  pub most : length old ≤ length new
  pub nodes : (n : ℕ) → n < length old → node_at new n ≡ node_at old n
  pub rows : (n : ℕ) → n < length old → rows_from new n ≡ rows_from old n

abbrev pub AreBelow : ℕ → List ℕ → Type 0
AreBelow n [] = ⊤
AreBelow n (k ∷ ks) = (k < n) × AreBelow n ks

-- each of the nodes has a name after the given one
abbrev pub AllNamedAfter : List FrozenNode → List ℕ → List ℕ → Type 0
AllNamedAfter ns name [] = ⊤
AllNamedAfter ns name (k ∷ ks) = (is_lt (slice_cmp nat_cmp name (node_at ns k).name) ≡ true) × AllNamedAfter ns name ks

-- the names of the nodes rise
abbrev pub AreNamedInOrder : List FrozenNode → List ℕ → Type 0
AreNamedInOrder ns [] = ⊤
AreNamedInOrder ns (k ∷ ks) = AllNamedAfter ns (node_at ns k).name ks × AreNamedInOrder ns ks

-- each of the nodes has a name that keeps the rule
abbrev pub HaveNames : List FrozenNode → List ℕ → Type 0
HaveNames ns [] = ⊤
HaveNames ns (k ∷ ks) = (is_component (node_at ns k).name ≡ true) × HaveNames ns ks

-- numbers that can be the kids of the n-th node
pub record AreKids (ns : List FrozenNode) (n : ℕ) (ks : List ℕ) : Type 0 where
  -- each comes before the node
  pub below : AreBelow n ks
  -- their names rise
  pub order : AreNamedInOrder ns ks
  -- and keep the rule
  pub ruled : HaveNames ns ks

-- the kids of each node come before it, in the order of their names
abbrev pub IsForest : List FrozenNode → Type 0
IsForest ns = (n : ℕ) → AreKids ns n (node_at ns n).kids

-- a node as a child of its directory
abbrev pub child_at : List FrozenNode → ℕ → Child
child_at ns n = record { name = (node_at ns n).name; directory = is_dir (node_at ns n).row.kind }

-- the first kid with a name
abbrev pub kid_named : List FrozenNode → List ℕ → List ℕ → Option ℕ
kid_named ns ks name = find (λ k. bytes_eq (node_at ns k).name name) ks

-- the node at a path from a node
abbrev pub node_below : List FrozenNode → ℕ → List (List ℕ) → Option ℕ
node_below ns n [] = Some n
node_below ns n (x ∷ p) = option_and_then (λ k. node_below ns k p) (kid_named ns (node_at ns n).kids x)
