use Rattle.std.proofs.Common.{◌≡◌, ◌≤◌, ◌-◌, ◌++◌, drop}
use Rattle.inode_tree.specs.Arena.{rank, rows_of}
use Rattle.inode_tree.specs.Listing.{children}
use Rattle.inode_tree.proofs.tree.children.list.Given as goal

abbrev pub invariant-each : goal.invariant-each
invariant-each l = record {
  low : rank (rows_of l.nodes.items l.order.items) l.path ≤ l.at;
  rest : l.list ++ children (drop l.at (rows_of l.nodes.items l.order.items)) l.path ≡ children (rows_of l.nodes.items l.order.items) l.path;
}

abbrev pub decreases-each : goal.decreases-each
decreases-each l = l.end - l.at
