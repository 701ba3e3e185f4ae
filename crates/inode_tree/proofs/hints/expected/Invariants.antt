use Rattle.std.proofs.Common.{◌≡◌, ◌≤◌, length, take}
use Rattle.inode_tree.specs.Arena.{IsLive, path_of}
use Rattle.inode_tree.proofs.hints.expected.Given as goal

abbrev pub invariant-climb : goal.invariant-climb
invariant-climb l = record {
  live : IsLive l.order.items l.m;
  found : IsLive l.order.items l.near;
  path : path_of l.nodes.items l.m ≡ take l.k l.path → l.k ≤ l.upto → (path_of l.nodes.items l.near ≡ take l.depth l.path) × (l.depth ≤ l.upto);
}

abbrev pub decreases-climb : goal.decreases-climb
decreases-climb l = length (path_of l.nodes.items l.m)
