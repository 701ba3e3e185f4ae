-- Snapshots: the directories that may have them, and the rows as they were.
use Rattle.std.specs.Prelude.{◌≡◌, ℕ, ◌<◌, ◌≤◌, Bool, true, not, ◌&&◌, ◌==◌, List, [], length, map, Option, Some, None, IsSome, is_some, if◌then◌else◌, bytes_eq}
use Rattle.std.specs.declared.cmp.Ordering.{Ordering}
use Rattle.std.specs.List.{All, filter, find, list_all, list_any}
use Rattle.std.specs.Option.{option_map, option_map_or}
use Rattle.std.specs.Ordering.{nat_cmp, ordering_then}
use Rattle.std.specs.Cmp.Lexicographic.{slice_cmp}
use Rattle.name_calls.specs.declared.listing.Child.{Child}
use Rattle.name_calls.specs.Paths.{is_relative, parent}
use Rattle.inode_tree.specs.Below.{at_or_above, at_or_below, rows_below}
use Rattle.inode_tree.specs.Listing.{children}
use Rattle.inode_tree.specs.Rows.{Entry, IsRising, entry_of, is_dir_at, row_at, zone_of}
use Rattle.frozen_nodes.specs.Copies.{CopyRoom, FitsCopies}
use Rattle.frozen_nodes.specs.Packed.{ForestRoom}
use Rattle.snap_store.specs.Ordered.{IsRisingBy, put_by}

-- the directory of a snapshot, its name, and the rows at and below the directory as they were, seen from it
pub record Snapshot : Type 0 where
  pub dir : ℕ
  pub name : List ℕ
  pub rows : List Entry

-- the ids of the directories that may have snapshots, and the snapshots
pub record SnapTable : Type 0 where
  pub allowed : List ℕ
  pub taken : List Snapshot

-- no directory may have snapshots
abbrev pub no_snaps : SnapTable
no_snaps = record { allowed = []; taken = [] }

-- memory reserved for the rows of a snapshot: of which directory, by its path, for their nodes, and what else copies of them need
pub record RowRoom : Type 0 where
  pub path : Option (List (List ℕ))
  pub nodes : ForestRoom
  pub copies : CopyRoom

-- memory reserved apart from the table: for how many more ids, for how many more snapshots, and for the rows and the name of one
pub record SnapRoom : Type 0 where
  pub ids : ℕ
  pub snapshots : ℕ
  pub rows : RowRoom
  pub name : Option (List ℕ)

pub record SnapState : Type 0 where
  pub table : SnapTable
  pub room : SnapRoom

-- by directory, and by name there, byte by byte
abbrev pub snapshot_cmp : Snapshot → Snapshot → Ordering
snapshot_cmp s t = ordering_then (nat_cmp s.dir t.dir) (slice_cmp nat_cmp s.name t.name)

-- the key by which a snapshot is sought
abbrev pub key_of : ℕ → List ℕ → Snapshot
key_of dir name = record { dir = dir; name = name; rows = [] }

abbrev pub is_among : List ℕ → ℕ → Bool
is_among ids id = list_any (λ i. i == id) ids

-- the ids with one more, which may be there already
abbrev pub with_id : ℕ → List ℕ → List ℕ
with_id id ids = if is_among ids id then ids else put_by nat_cmp id ids

abbrev pub without_id : ℕ → List ℕ → List ℕ
without_id id ids = filter (λ i. not (i == id)) ids

abbrev pub is_of : ℕ → Snapshot → Bool
is_of dir s = s.dir == dir

abbrev pub is_named : ℕ → List ℕ → Snapshot → Bool
is_named dir name s = s.dir == dir && bytes_eq s.name name

abbrev pub snapshot_named : List Snapshot → ℕ → List ℕ → Option Snapshot
snapshot_named taken dir name = find (is_named dir name) taken

abbrev pub without_snapshot : List Snapshot → ℕ → List ℕ → List Snapshot
without_snapshot taken dir name = filter (λ s. not (is_named dir name s)) taken

abbrev pub put_snapshot : Snapshot → List Snapshot → List Snapshot
put_snapshot = put_by snapshot_cmp

-- the rows of a snapshot, or no rows if there is none
abbrev pub rows_in : List Snapshot → ℕ → List ℕ → List Entry
rows_in taken dir name = option_map_or (λ s. s.rows) (snapshot_named taken dir name) []

-- the rows at and below the directory that has the id, seen from it
abbrev pub frozen : List Entry → ℕ → List Entry
frozen rows dir = option_map_or (λ e. rows_below rows e.path) (entry_of rows dir) []

-- the id is that of a directory
abbrev pub is_directory : List Entry → ℕ → Bool
is_directory rows id = is_dir_at (option_map (λ e. e.row) (entry_of rows id))

-- Rows at and below a directory, seen from it. They are a tree, and the directory is its root.
pub record IsFrozenTree (rows : List Entry) : Type 0 where
  -- they are in path order, and no path comes twice
  pub rising : IsRising rows
  -- each path keeps the rule
  pub ruled : All (λ e. is_relative e.path ≡ true) rows
  -- each id is that of one row
  pub once : All (λ e. entry_of rows e.row.id ≡ Some e) rows
  -- the directory's own row is there
  pub rooted : is_dir_at (row_at rows []) ≡ true
  -- and the parent of each row is a directory of them
  pub housed : All (λ e. is_dir_at (row_at rows (parent e.path)) ≡ true) rows

-- how many rows a snapshot of the directory has
abbrev pub nodes_for : List Entry → ℕ → ℕ
nodes_for rows dir = length (frozen rows dir)

-- a directory that has no row needs no memory
pub record IsRoomFor (room : RowRoom) (rows : List Entry) (dir : ℕ) : Type 0 where
  pub path : room.path ≡ option_map (λ e. e.path) (entry_of rows dir)
  pub fits : IsSome (entry_of rows dir) → FitsCopies (nodes_for rows dir) room.nodes room.copies

-- all memory for one more snapshot of the directory, under the name, is reserved
pub record IsSnapshotReady (room : SnapRoom) (rows : List Entry) (dir : ℕ) (name : List ℕ) : Type 0 where
  pub place : 0 < room.snapshots
  pub name_fits : room.name ≡ Some name
  pub rows_fit : IsRoomFor room.rows rows dir

-- the names of a directory's snapshots, by bytes
abbrev pub names_of : List Snapshot → ℕ → List (List ℕ)
names_of taken dir = map (λ s. s.name) (filter (is_of dir) taken)

abbrev pub count_of : List Snapshot → ℕ → ℕ
count_of taken dir = length (filter (is_of dir) taken)

-- the number of snapshots of a directory, if it may have some
abbrev pub count_in : SnapTable → ℕ → Option ℕ
count_in t dir = if is_among t.allowed dir then Some (count_of t.taken dir) else None

-- the children of a directory, if the rows have it as one
abbrev pub list_in : List Entry → List (List ℕ) → Option (List Child)
list_in rows p = if is_dir_at (row_at rows p) then Some (children rows p) else None

-- the number of names in the path of the zone that a path lies in
abbrev pub zone_depth : List Entry → List (List ℕ) → Option ℕ
zone_depth rows p = option_map (λ e. length e.path) (zone_of rows p)

-- a snapshot is of a directory at the path or below it
abbrev pub holds_snapshot : List Entry → List Snapshot → List (List ℕ) → Bool
holds_snapshot rows taken p = list_any (λ s. at_or_below rows s.dir p) taken

-- a directory that may have snapshots is above the path, and not at it
abbrev pub allowed_above : List Entry → List ℕ → List (List ℕ) → Bool
allowed_above rows allowed p = list_any (λ id. at_or_above rows id p && not (at_or_below rows id p)) allowed

-- or below the path, and not at it
abbrev pub allowed_below : List Entry → List ℕ → List (List ℕ) → Bool
allowed_below rows allowed p = list_any (λ id. at_or_below rows id p && not (at_or_above rows id p)) allowed

-- a directory that may have snapshots is at the path or below it
abbrev pub allowed_at_or_below : List Entry → List ℕ → List (List ℕ) → Bool
allowed_at_or_below rows allowed p = list_any (λ id. at_or_below rows id p) allowed

-- or at it or above it
abbrev pub allowed_at_or_above : List Entry → List ℕ → List (List ℕ) → Bool
allowed_at_or_above rows allowed p = list_any (λ id. at_or_above rows id p) allowed

-- the ids without those of directories at the path or below it
abbrev pub without_below : List Entry → List (List ℕ) → List ℕ → List ℕ
without_below rows p ids = filter (λ id. not (at_or_below rows id p)) ids

-- the table after each change

abbrev pub table_after_allow : ℕ → SnapTable → SnapTable
table_after_allow dir t = record t { allowed = with_id dir t.allowed }

abbrev pub table_after_disallow : ℕ → SnapTable → SnapTable
table_after_disallow dir t = record t { allowed = without_id dir t.allowed }

-- the rows are those from before the directories are removed
abbrev pub table_after_disallow_below : List Entry → List (List ℕ) → SnapTable → SnapTable
table_after_disallow_below rows p t = record t { allowed = without_below rows p t.allowed }

abbrev pub table_after_take : List Entry → ℕ → List ℕ → SnapTable → SnapTable
table_after_take rows dir name t = record t { taken = put_snapshot (record { dir = dir; name = name; rows = frozen rows dir }) t.taken }

abbrev pub table_after_remove : ℕ → List ℕ → SnapTable → SnapTable
table_after_remove dir name t = record t { taken = without_snapshot t.taken dir name }

-- what is always true of them
pub record IsSnapshots (allowed : List ℕ) (taken : List Snapshot) : Type 0 where
  -- the ids rise
  pub ids : IsRisingBy nat_cmp allowed
  -- the snapshots are in the order of directory and name, none twice
  pub order : IsRisingBy snapshot_cmp taken
  -- each is of a directory that may have some
  pub housed : list_all (λ t. is_among allowed t.dir) taken ≡ true
  -- each has the row of the directory itself
  pub rooted : list_all (λ t. is_some (row_at t.rows [])) taken ≡ true
  -- and the rows of each are a tree
  pub trees : All (λ t. IsFrozenTree t.rows) taken
  -- a directory has at most 65,536
  pub few : (dir : ℕ) → count_of taken dir ≤ 65536
