use Rattle.std.proofs.Common.{length}
use Rattle.inode_tree.specs.Arena.{path_of}
use Rattle.inode_tree.proofs.climbs.+meet.Given as goal

abbrev pub decreases-meet : goal.decreases-meet
decreases-meet l = length (path_of l.nodes.now.items l.n)
