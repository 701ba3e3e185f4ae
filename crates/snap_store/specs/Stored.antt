-- Snapshots in memory: their keys in one list, and beside it the nodes of their directories.
use Rattle.std.specs.Prelude.{◌≡◌, ℕ, min, List, [], ◌∷◌, length, suc, Option, Some, None, if◌then◌else◌}
use Rattle.std.specs.Option.{option_map}
use Rattle.std.specs.Global.{Vec}
use Rattle.frozen_nodes.specs.Forest.{AreBelow, FrozenNode, rows_from}
use Rattle.frozen_nodes.specs.Packed.{ForestRoom, spare}
use Rattle.snap_store.specs.Ordered.{IsRisingBy}
use Rattle.snap_store.specs.declared.reserved.Reserved.{Reserved}
use Rattle.snap_store.specs.Snapshots.{IsSnapshots, SnapRoom, Snapshot, is_named, snapshot_cmp}

-- each snapshot has the rows at and below its root
abbrev pub snapshots_of : List FrozenNode → List Snapshot → List ℕ → List Snapshot
snapshots_of nodes [] roots = []
snapshots_of nodes (key ∷ keys) [] = []
snapshots_of nodes (key ∷ keys) (root ∷ roots) = record key { rows = rows_from nodes root } ∷ snapshots_of nodes keys roots

-- the memory reserved in these lists, in this room for nodes, and for one snapshot
abbrev pub room_in : Vec ℕ → Vec Snapshot → Vec ℕ → ForestRoom → Reserved → Option (List ℕ) → SnapRoom
room_in allowed taken roots nodes reserved name = record {
  ids = spare allowed;
  snapshots = min (spare taken) (spare roots);
  rows = record { path = reserved.path; nodes = nodes; copies = reserved.buffer };
  name = name;
}

-- the index of the first snapshot of the directory with the name
abbrev pub index_named : List Snapshot → ℕ → List ℕ → Option ℕ
index_named [] dir name = None
index_named (s ∷ ss) dir name = if is_named dir name s then Some 0 else option_map suc (index_named ss dir name)

-- the keys are in order, and each has a root
pub record AreRooted (nodes : List FrozenNode) (keys : List Snapshot) (roots : List ℕ) : Type 0 where
  pub rising : IsRisingBy snapshot_cmp keys
  pub count : length roots ≡ length keys
  pub below : AreBelow (length nodes) roots

-- what is always true of the snapshots in memory
pub record IsStored (nodes : List FrozenNode) (allowed : List ℕ) (keys : List Snapshot) (roots : List ℕ) : Type 0 where
  pub snapshots : IsSnapshots allowed (snapshots_of nodes keys roots)
  pub rooted : AreRooted nodes keys roots
