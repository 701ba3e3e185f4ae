use Rattle.std.proofs.Common.{◌≡◌, take}
use Rattle.std.specs.List.{flat_map}
use Rattle.zone_table.specs.Listings.{listed_at}
use Rattle.zone_table.proofs.list.list_places.Given as goal

abbrev pub invariant-loop-at : goal.invariant-loop-at
invariant-loop-at l = l.list ≡ flat_map (listed_at l.tree.rows) (take l.at-index l.places.items)
