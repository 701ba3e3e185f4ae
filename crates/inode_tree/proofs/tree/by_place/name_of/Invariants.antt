use Rattle.std.proofs.Common.{◌≡◌, ◌<◌, ◌+◌, [], length, get_or}
use Rattle.inode_tree.specs.Arena.{path_of}
use Rattle.inode_tree.proofs.tree.by_place.name_of.Given as goal

abbrev pub invariant-climb : goal.invariant-climb
invariant-climb l = record {
  live : l.m < length l.nodes.items;
  count : length (path_of l.nodes.items l.m) ≡ l.left + l.k + 1;
  same : get_or (path_of l.nodes.items l.m) l.k [] ≡ get_or (path_of l.nodes.items l.n) l.k [];
}

abbrev pub decreases-climb : goal.decreases-climb
decreases-climb l = l.left
