use Rattle.std.proofs.Common.{◌-◌, ◌≤◌, take}
use Rattle.inode_tree.specs.Arena.{HoldsRank}
use Rattle.inode_tree.proofs.climbs.place_from.Given as goal

abbrev pub invariant-pieces : goal.invariant-pieces
invariant-pieces l = record {
  order : l.c ≤ l.end;
  around : HoldsRank l.nodes.items l.order.items (take l.upto l.path) l.span.low l.span.high;
}

abbrev pub decreases-pieces : goal.decreases-pieces
decreases-pieces l = l.end - l.c

abbrev pub invariant-halve : goal.invariant-halve
invariant-halve l = record {
  around : HoldsRank l.nodes.items l.order.items (take l.upto l.path) l.span.low l.span.high;
}

abbrev pub decreases-halve : goal.decreases-halve
decreases-halve l = l.span.high - l.span.low
