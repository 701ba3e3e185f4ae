use Rattle.std.proofs.Common.{◌≡◌, ◌<◌, ◌≤◌, ◌-◌, ℕ, length, get_or}
use Rattle.inode_tree.specs.Listed.{raised}
use Rattle.inode_tree.proofs.order.raise.Given as goal

abbrev pub invariant-raise : goal.invariant-raise
invariant-raise l = record {
  low : l.c < l.j;
  same : length l.starts ≡ length l.initial.starts;
  done : (k : ℕ) → k < l.j → get_or l.starts k 0 ≡ get_or (raised l.c l.initial.starts) k 0;
  rest : (k : ℕ) → l.j ≤ k → get_or l.starts k 0 ≡ get_or l.initial.starts k 0;
}

abbrev pub decreases-raise : goal.decreases-raise
decreases-raise l = length l.starts - l.j
