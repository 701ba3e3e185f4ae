use Rattle.std.proofs.Common.{◌≡◌, map, take}
use Rattle.frozen_nodes.specs.Forest.{child_at}
use Rattle.frozen_nodes.proofs.forest.Forest.children.Given as goal

abbrev pub invariant-loop-kid : goal.invariant-loop-kid
invariant-loop-kid l = l.list ≡ map (child_at l.self.nodes) (take l.kid-index l.kids)
