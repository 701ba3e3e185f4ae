use Rattle.std.proofs.Common.{◌≡◌, drop, slice_get}
use Rattle.std.specs.List.{concat}
use Rattle.key_index.proofs.runs.PlaceList.get.Given as goal

-- the place is the one of the runs that are left, at the number that is left
abbrev pub invariant-loop-run : goal.invariant-loop-run
invariant-loop-run l = slice_get l.self l.number ≡ slice_get (concat (drop l.run-index l.run-items)) l.left
