-- Rows of snapshots as they are met in a walk over nodes.
use Rattle.std.specs.Prelude.{ℕ, List, [], ◌++◌, map}
use Rattle.inode_tree.specs.Rows.{Entry}
use Rattle.frozen_nodes.specs.Forest.{FrozenNode, node_at, rows_from}
use Rattle.snap_store.specs.Snapshots.{Snapshot}

-- the names of nodes
abbrev pub names_in : List FrozenNode → List ℕ → List (List ℕ)
names_in ns ks = map (λ k. (node_at ns k).name) ks

-- a row as it is seen from the directory above, to which these names lead down from it
abbrev pub led : List (List ℕ) → Entry → Entry
led p e = record e { path = p ++ e.path }

-- the rows at and below a node, as they are seen from the node at which the names of its path begin
abbrev pub rows_led : List FrozenNode → List (List ℕ) → ℕ → List Entry
rows_led ns p n = map (led p) (rows_from ns n)

abbrev pub no_snapshot : Snapshot
no_snapshot = record { dir = 0; name = []; rows = [] }
