use Rattle.std.proofs.Common.{◌≡◌}
use Rattle.inode_tree.specs.Arena.{IsTreeKept, rank, rank_past, rows_of}
use Rattle.inode_tree.specs.Rows.{removed}
use Rattle.inode_tree.proofs.tree.removal.clear.Given as goal

abbrev pub invariant-each : goal.invariant-each
invariant-each l = record {
  kept : IsTreeKept l.nodes l.order l.places l.free;
  from : l.from ≡ rank (rows_of l.nodes.items l.order.items) l.path;
  end : l.end ≡ rank_past (rows_of l.nodes.items l.order.items) l.path;
  rows : removed l.path (rows_of l.nodes.items l.order.items) ≡ removed l.path (rows_of l.initial.nodes.items l.initial.order.items);
}

abbrev pub decreases-each : goal.decreases-each
decreases-each l = l.end
