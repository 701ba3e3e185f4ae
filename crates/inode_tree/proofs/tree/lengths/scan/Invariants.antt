use Rattle.std.proofs.Common.{◌≡◌, ◌≤◌, map}
use Rattle.std.specs.List.{between}
use Rattle.inode_tree.specs.Arena.{rank, rank_past, rows_of}
use Rattle.inode_tree.specs.Moves.{greatest}
use Rattle.inode_tree.proofs.MovedLengths.{names_below, size_below}
use Rattle.inode_tree.proofs.tree.lengths.scan.Given as goal

abbrev pub invariant-rows : goal.invariant-rows
invariant-rows l = record {
  low : rank (rows_of l.nodes.items l.order.items) l.path ≤ l.at;
  high : l.at ≤ rank_past (rows_of l.nodes.items l.order.items) l.path;
  bytes : l.bytes ≡ greatest (map (size_below l.path) (between l.at (rank_past (rows_of l.nodes.items l.order.items) l.path) (rows_of l.nodes.items l.order.items)));
  names : l.names ≡ greatest (map (names_below l.path) (between l.at (rank_past (rows_of l.nodes.items l.order.items) l.path) (rows_of l.nodes.items l.order.items)));
}

abbrev pub decreases-rows : goal.decreases-rows
decreases-rows l = l.at
