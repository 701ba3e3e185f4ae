use Rattle.std.proofs.Common.{◌≡◌}
use Rattle.name_calls.specs.ReadPaths.{mark_at}
use Rattle.name_calls.proofs.ReadPathLemmas.{mark-from}
use Rattle.name_calls.proofs.read_paths.mark_at.Given as goal

abbrev pub invariant-loop-at : goal.invariant-loop-at
invariant-loop-at l = mark_at l.bytes ≡ mark-from l.bytes l.at
