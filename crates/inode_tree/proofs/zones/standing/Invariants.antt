use Rattle.std.proofs.Common.{◌≡◌, ◌≤◌, length, take}
use Rattle.inode_tree.specs.Arena.{rows_of}
use Rattle.inode_tree.specs.Rows.{zone_of}
use Rattle.inode_tree.proofs.zones.standing.Given as goal

abbrev pub invariant-shorten : goal.invariant-shorten
invariant-shorten l = record {
  least : l.near.depth ≤ l.upto;
  upto : l.upto ≤ length l.path;
  zone : zone_of (rows_of l.nodes.items l.order.items) (take l.upto l.path) ≡ zone_of (rows_of l.nodes.items l.order.items) (take l.names l.path);
}

abbrev pub decreases-shorten : goal.decreases-shorten
decreases-shorten l = l.upto
