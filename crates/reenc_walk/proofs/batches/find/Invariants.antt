use Rattle.std.proofs.Common.{◌≡◌, ◌+◌, ◌-◌, length, drop}
use Rattle.reenc_walk.specs.Retiring.{batch_at}
use Rattle.reenc_walk.proofs.batches.find.Given as goal

abbrev pub invariant-loop-k : goal.invariant-loop-k
invariant-loop-k l = batch_at l.sent l.batches.items ≡ l.k + batch_at l.sent (drop l.k l.batches.items)

abbrev pub decreases-loop-k : goal.decreases-loop-k
decreases-loop-k l = length l.batches.items - l.k
