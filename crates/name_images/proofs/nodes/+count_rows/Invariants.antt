use Rattle.std.proofs.Common.{◌≡◌, ◌+◌, ◌^◌, length, take}
use Rattle.std.specs.Prelude.{◌%◌}
use Rattle.frozen_nodes.specs.Forest.{kid_rows, node_at, subtree_at, subtrees}
use Rattle.name_images.proofs.nodes.+count_rows.Given as goal

abbrev pub invariant-loop-kid : goal.invariant-loop-kid
invariant-loop-kid l = l.count ≡ (1 + length (kid_rows (subtree_at (subtrees l.forest.nodes)) (take l.kid-index (node_at l.forest.nodes l.n).kids))) % 2 ^ 32

abbrev pub decreases-count_rows : goal.decreases-count_rows
decreases-count_rows l = l.n
