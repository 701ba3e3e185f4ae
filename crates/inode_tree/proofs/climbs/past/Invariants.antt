use Rattle.std.proofs.Common.{◌-◌, ◌≤◌, length}
use Rattle.inode_tree.specs.Arena.{rows_of, rank_past}
use Rattle.inode_tree.proofs.climbs.past.Given as goal

abbrev pub invariant-halve : goal.invariant-halve
invariant-halve l = record {
  low : l.low ≤ rank_past (rows_of l.nodes.items l.order.items) l.path;
  high : rank_past (rows_of l.nodes.items l.order.items) l.path ≤ l.high;
  most : l.high ≤ length l.order.items;
}

abbrev pub decreases-halve : goal.decreases-halve
decreases-halve l = l.high - l.low
