use Rattle.std.proofs.Common.{◌≡◌, drop}
use Rattle.reenc_walk.specs.Files.{same_sent}
use Rattle.reenc_walk.proofs.sent.are_same.Given as goal

-- the files from the k-th on decide
abbrev pub invariant-loop-k : goal.invariant-loop-k
invariant-loop-k l = same_sent (drop l.k l.files) (drop l.k l.others) ≡ same_sent l.files l.others
