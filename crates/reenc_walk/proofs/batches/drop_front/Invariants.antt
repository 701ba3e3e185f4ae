use Rattle.std.proofs.Common.{◌≡◌, length}
use Rattle.reenc_walk.specs.Walks.{from_outstanding}
use Rattle.reenc_walk.proofs.batches.drop_front.Given as goal

abbrev pub invariant-loop-batches : goal.invariant-loop-batches
invariant-loop-batches l = from_outstanding l.batches.items ≡ from_outstanding l.initial.batches.items

abbrev pub decreases-loop-batches : goal.decreases-loop-batches
decreases-loop-batches l = length l.batches.items
