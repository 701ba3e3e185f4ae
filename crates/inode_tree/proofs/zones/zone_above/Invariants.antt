use Rattle.std.proofs.Common.{◌≡◌, length}
use Rattle.inode_tree.specs.Arena.{path_of, rows_of, IsLive}
use Rattle.inode_tree.specs.Rows.{zone_of}
use Rattle.inode_tree.proofs.zones.zone_above.Given as goal

abbrev pub invariant-climb : goal.invariant-climb
invariant-climb l = record {
  live : IsLive l.order.items l.m;
  same : zone_of (rows_of l.nodes.items l.order.items) (path_of l.nodes.items l.n) ≡ zone_of (rows_of l.nodes.items l.order.items) (path_of l.nodes.items l.m);
}

abbrev pub decreases-climb : goal.decreases-climb
decreases-climb l = length (path_of l.nodes.items l.m)
