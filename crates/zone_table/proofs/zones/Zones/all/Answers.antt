use Rattle.std.proofs.Common.{◌≡◌, ◌∙◌, ap}
use Rattle.std.proofs.lemmas.List.Sorted.{IsNonDecreasingBy-from_sort}
use Rattle.std.proofs.lemmas.Result.{IfOk-weaker}
use Rattle.zone_table.specs.Zones.{ZoneState, zone_paths}
use Rattle.zone_table.proofs.Listed.{entries-stand, marks_from, places-listed, places-sorted, places-within}
use Rattle.zone_table.proofs.zones.Zones.all.Goals as goal

pub places_of-requires : goal.places_of-requires
places_of-requires c = entries-stand c.args.tree.now.rows c.self.inside.keys.entries c.rows.ensures.rules (ap (λ (zones : ZoneState). zones.rows) c.self.view_is ∙ c.requires)

pub list_places-requires : goal.list_places-requires
list_places-requires c =
    places-within c.args.tree.now.rows c.sort_unstable.new.self.items
    (places-sorted c.args.tree.now.rows c.self.inside.keys.entries c.in_ok-places.places.items c.sort_unstable.new.self.items c.rows.ensures.rules (ap (λ (zones : ZoneState). zones.rows) c.self.view_is ∙ c.requires) c.in_ok-places.ensures
    c.sort_unstable.ensures.permutation (IsNonDecreasingBy-from_sort (λ k. k) c.sort_unstable.new.self.items c.sort_unstable.ensures.sorted))

pub returns : goal.returns
returns c =
    let sorted : c.sort_unstable.new.self.items ≡ marks_from 0 c.args.tree.now.rows =
    places-sorted c.args.tree.now.rows c.self.inside.keys.entries c.in_ok-places.places.items c.sort_unstable.new.self.items c.rows.ensures.rules (ap (λ (zones : ZoneState). zones.rows) c.self.view_is ∙ c.requires) c.in_ok-places.ensures
    c.sort_unstable.ensures.permutation (IsNonDecreasingBy-from_sort (λ k. k) c.sort_unstable.new.self.items c.sort_unstable.ensures.sorted)
    in
    IfOk-weaker c.list_places.result _ (λ list. list ≡ zone_paths c.args.tree.now.rows)
    (λ list e. e ∙ places-listed c.args.tree.now.rows c.sort_unstable.new.self.items sorted) c.list_places.ensures
