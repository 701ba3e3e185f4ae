use Rattle.std.proofs.Common.{◌≡◌, ◌≤◌, ◌-◌, take}
use Rattle.inode_tree.specs.Arena.{IsLive, path_of}
use Rattle.inode_tree.proofs.hints.follow.Given as goal

abbrev pub invariant-names : goal.invariant-names
invariant-names l = record {
  upto : l.k ≤ l.upto;
  live : IsLive l.order.items l.m;
  path : path_of l.nodes.items l.m ≡ take l.k l.path;
}

abbrev pub decreases-names : goal.decreases-names
decreases-names l = l.upto - l.k
