use Rattle.std.proofs.Common.{◌≡◌, ◌≤◌, ◌-◌, length, drop}
use Rattle.name_calls.specs.Paths.{path_cmp}
use Rattle.reenc_walk.proofs.cursor.comes_before.Given as goal

-- the names from the k-th on decide
abbrev pub invariant-loop-k : goal.invariant-loop-k
invariant-loop-k l = (path_cmp (drop l.k l.path) (drop l.k l.other) ≡ path_cmp l.path l.other) × (l.k ≤ length l.path) × (l.k ≤ length l.other)

abbrev pub decreases-loop-k : goal.decreases-loop-k
decreases-loop-k l = length l.path - l.k
