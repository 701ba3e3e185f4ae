use Rattle.std.proofs.Common.{◌≡◌, ◌<◌, length, ◌+◌}
use Rattle.inode_tree.specs.Arena.{path_of}
use Rattle.inode_tree.proofs.climbs.depth.Given as goal

abbrev pub invariant-climb : goal.invariant-climb
invariant-climb l = record { live : l.m < length l.nodes.items; passed : l.d + length (path_of l.nodes.items l.m) ≡ length (path_of l.nodes.items l.n) }

abbrev pub decreases-climb : goal.decreases-climb
decreases-climb l = length (path_of l.nodes.items l.m)
