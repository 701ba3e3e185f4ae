use Rattle.std.proofs.Common.{◌≡◌}
use Rattle.key_index.specs.Runs.{run_places}
use Rattle.key_images.proofs.keys.places_of.Given as goal

abbrev pub invariant-loop-number : goal.invariant-loop-number
invariant-loop-number l = l.places.items ≡ run_places l.first l.step l.number
