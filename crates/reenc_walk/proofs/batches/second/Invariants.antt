use Rattle.std.proofs.Common.{◌≡◌, ◌+◌, ◌-◌, length, drop}
use Rattle.reenc_walk.specs.Retiring.{run_length}
use Rattle.reenc_walk.proofs.batches.second.Given as goal

abbrev pub invariant-loop-k : goal.invariant-loop-k
invariant-loop-k l = 1 + run_length (drop 1 l.batches.items) ≡ l.k + run_length (drop l.k l.batches.items)

abbrev pub decreases-loop-k : goal.decreases-loop-k
decreases-loop-k l = length l.batches.items - l.k
