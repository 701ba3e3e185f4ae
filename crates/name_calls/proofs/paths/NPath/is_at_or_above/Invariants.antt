use Rattle.std.proofs.Common.{◌≡◌, drop}
use Rattle.name_calls.specs.Paths.{is_prefix}
use Rattle.name_calls.proofs.paths.NPath.is_at_or_above.Given as goal

-- the names from the k-th on decide
abbrev pub invariant-loop-k : goal.invariant-loop-k
invariant-loop-k l = is_prefix (drop l.k l.self) (drop l.k l.other) ≡ is_prefix l.self l.other
