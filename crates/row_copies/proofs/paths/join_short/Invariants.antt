use Rattle.std.proofs.Common.{◌≡◌, ◌++◌, take}
use Rattle.row_copies.proofs.paths.join_short.Given as goal

abbrev pub invariant-loop-k : goal.invariant-loop-k
invariant-loop-k l = l.path ≡ l.to ++ take l.k l.from
