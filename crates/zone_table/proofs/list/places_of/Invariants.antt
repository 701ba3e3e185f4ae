use Rattle.std.proofs.Common.{◌≡◌, ℕ, map}
use Rattle.std.specs.Map.Iter.{deref}
use Rattle.zone_table.specs.Listings.{place_of}
use Rattle.zone_table.proofs.list.places_of.Given as goal

abbrev pub invariant-loop-dir : goal.invariant-loop-dir
invariant-loop-dir l = l.places.items ≡ map (place_of l.tree.rows) (map (deref {X = ℕ}) l.yielded)
