use Rattle.std.proofs.Common.{◌<◌, ◌≤◌, ◌-◌, length, get_or}
use Rattle.inode_tree.proofs.order.locate.Given as goal

abbrev pub invariant-halve : goal.invariant-halve
invariant-halve l = record { apart : l.low < l.high; most : l.high ≤ length l.starts.items; from : get_or l.starts.items l.low 0 ≤ l.i; to : l.high < length l.starts.items → l.i < get_or l.starts.items l.high 0 }

abbrev pub decreases-halve : goal.decreases-halve
decreases-halve l = l.high - l.low
