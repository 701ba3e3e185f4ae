-- Rows of a tree that are copied into nodes, a directory with the rows below it.
use Rattle.std.specs.Prelude.{◌≡◌, ℕ, ◌+◌, ◌*◌, ◌<◌, ◌≤◌, true, false, List, [], ◌∷◌, ◌++◌, length, map, drop, slice_index_or, ⊤}
use Rattle.inode_tree.specs.Below.{RowView, seen_from, view_of}
use Rattle.inode_tree.specs.Rows.{Entry}
use Rattle.name_calls.specs.Paths.{is_prefix, last_name}
use Rattle.frozen_nodes.specs.Forest.{AreKids, FrozenNode, KeepsNodes, kid_rows, no_node, node_at, rows_from, subtree_at, subtrees}
use Rattle.frozen_nodes.specs.Packed.{ForestRoom, HasForestRoom}

abbrev pub no_entry : Entry
no_entry = record { path = []; row = no_node.row }

-- what is read of the row at a place
abbrev pub view_at : List Entry → ℕ → RowView
view_at rows k = view_of (slice_index_or rows k no_entry)

-- the path of the row at a place
abbrev pub path_at : List Entry → ℕ → List (List ℕ)
path_at rows k = (slice_index_or rows k no_entry).path

abbrev pub AllAtOrBelow : List (List ℕ) → List Entry → Type 0
AllAtOrBelow p [] = ⊤
AllAtOrBelow p (e ∷ es) = (is_prefix p e.path ≡ true) × AllAtOrBelow p es

-- a node has copies of the rows at and below the row at a place, as far as these come before the end
pub record IsCopy (rows : List Entry) (at end depth : ℕ) (old new : List FrozenNode) (node next : ℕ) : Type 0 where
  -- the rows go up to the next place
  pub after : at < next
  pub most : next ≤ end
  pub block : List Entry
  pub split : drop at rows ≡ block ++ drop next rows
  pub below : AllAtOrBelow (path_at rows at) block
  pub places : (j : ℕ) → at ≤ j → j < next → is_prefix (path_at rows at) (path_at rows j) ≡ true
  -- no more rows are below it
  pub stop : next < end → length (path_at rows next) ≤ depth
  pub within : node < length new
  pub name : (node_at new node).name ≡ last_name (path_at rows at)
  pub rows_are : rows_from new node ≡ map (seen_from depth) block
  pub kept : KeepsNodes old new

-- a node's row is a child of the row at a place
pub record IsPlaced (rows : List Entry) (at next : ℕ) (ns : List FrozenNode) (k : ℕ) : Type 0 where
  pub place : ℕ
  pub after : at < place
  pub before : place < next
  pub path : path_at rows place ≡ path_at rows at ++ (node_at ns k).name ∷ []

abbrev pub AllPlaced : List Entry → ℕ → ℕ → List FrozenNode → List ℕ → Type 0
AllPlaced rows at next ns [] = ⊤
AllPlaced rows at next ns (k ∷ ks) = IsPlaced rows at next ns k × AllPlaced rows at next ns ks

-- the kids have copies of the rows after the one at a place, up to the next place
pub record AreCopied (rows : List Entry) (at next depth : ℕ) (ns : List FrozenNode) (ks : List ℕ) : Type 0 where
  pub block : List Entry
  pub split : drop (at + 1) rows ≡ block ++ drop next rows
  pub below : AllAtOrBelow (path_at rows at) block
  pub rows_are : kid_rows (subtree_at (subtrees ns)) ks ≡ map (seen_from depth) block
  pub placed : AllPlaced rows at next ns ks
  pub kids : AreKids ns (length ns) ks

-- there is memory for copies of the rows from a place up to the end
pub record HasRoomUpTo (at end : ℕ) (room : ForestRoom) : Type 0 where
  pub nodes_fit : end ≤ room.nodes + at
  pub kids_fit : end ≤ room.kids + at
  pub bytes_fit : 255 * end ≤ room.bytes + 255 * at

-- the room has become less by what copies of the rows up to the next place need
pub record IsRoomSpent (at next : ℕ) (old new : ForestRoom) : Type 0 where
  pub nodes_less : old.nodes + at ≤ new.nodes + next
  pub kids_less : old.kids + at + 1 ≤ new.kids + next
  pub bytes_less : old.bytes + 255 * at ≤ new.bytes + 255 * next

-- memory of copies apart from that of their nodes: for how many more kids
pub record CopyRoom : Type 0 where
  pub kids : ℕ

-- there is memory for copies of so many rows
pub record FitsCopies (rows : ℕ) (room : ForestRoom) (buffer : CopyRoom) : Type 0 where
  pub nodes_fit : HasForestRoom rows rows (255 * rows) room
  pub kids_fit : rows ≤ buffer.kids

-- the rows at and below a path are those from a place up to an end
pub record IsBlock (rows : List Entry) (p : List (List ℕ)) (at end : ℕ) : Type 0 where
  pub after : at < end
  pub most : end ≤ length rows
  pub path : path_at rows at ≡ p
  pub places : (j : ℕ) → at ≤ j → j < end → is_prefix p (path_at rows j) ≡ true
  pub stop : end < length rows → is_prefix p (path_at rows end) ≡ false
