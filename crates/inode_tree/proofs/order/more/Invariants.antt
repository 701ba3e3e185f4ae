use Rattle.std.proofs.Common.{◌≤◌, ◌-◌, length}
use Rattle.inode_tree.specs.Listed.{AreEmpty}
use Rattle.inode_tree.proofs.order.more.Given as goal

abbrev pub invariant-more : goal.invariant-more
invariant-more l = record { empty : AreEmpty l.extra.items; grown : length l.initial.extra.items ≤ length l.extra.items }

abbrev pub decreases-more : goal.decreases-more
decreases-more l = 3 - length l.extra.items
