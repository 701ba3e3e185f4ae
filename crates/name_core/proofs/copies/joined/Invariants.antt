use Rattle.std.proofs.Common.{◌≡◌, ◌++◌, take}
use Rattle.name_core.proofs.copies.joined.Given as goal

abbrev pub invariant-loop-k : goal.invariant-loop-k
invariant-loop-k l = l.joined ≡ l.fn.path ++ take l.k l.fn.below
