use Rattle.std.proofs.Common.{◌-◌, ◌≡◌, ◌<◌, ◌≤◌, ℕ, true, false, length}
use Rattle.name_calls.specs.Paths.{is_prefix}
use Rattle.frozen_nodes.specs.Copies.{path_at}
use Rattle.frozen_nodes.proofs.takes.end_below.Given as goal

abbrev pub invariant-halve : goal.invariant-halve
invariant-halve l = record {
  after : l.from < l.low;
  order : l.low ≤ l.high;
  most : l.high ≤ length l.tree.rows;
  places : (j : ℕ) → l.from ≤ j → j < l.low → is_prefix l.path (path_at l.tree.rows j) ≡ true;
  stop : l.high < length l.tree.rows → is_prefix l.path (path_at l.tree.rows l.high) ≡ false;
}

abbrev pub decreases-halve : goal.decreases-halve
decreases-halve l = l.high - l.low
