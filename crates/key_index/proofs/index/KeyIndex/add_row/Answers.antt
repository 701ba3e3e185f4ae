use Rattle.key_index.specs.Index.{Index}
use Rattle.key_index.proofs.Addings.{absent_added, all_added}
use Rattle.key_index.proofs.Searches.{nothing}
use Rattle.key_index.proofs.Sounds.{kept}
use Rattle.key_index.proofs.index.KeyIndex.add_row.Goals as goal

pub add-requires-clause-rising : goal.add-requires-clause-rising
add-requires-clause-rising c = (c.self.inside.greatest, c.self.invariant.0.births)

pub add-requires-clause-order : goal.add-requires-clause-order
add-requires-clause-order c = (c.self.invariant.1 nothing).order

pub add-requires-clause-absent : goal.add-requires-clause-absent
add-requires-clause-absent c =
    let x : Index = record { opening = c.self.inside.opening; greatest = c.self.inside.greatest; rows = c.self.inside.rows.items } in
    absent_added x c.args.row c.args.places.now c.in_ok-placed.placed c.self.inside.names.items c.self.invariant.0 c.self.invariant.1 (rw (← c.self.view_is) at c.requires) c.in_ok-placed.ensures

pub invariant_of-self : goal.invariant_of-self
invariant_of-self c =
    let x : Index = record { opening = c.self.inside.opening; greatest = c.self.inside.greatest; rows = c.self.inside.rows.items } in
    let same = kept x c.add.new.rows.items c.self.inside.names.items c.add.new.names.items c.self.invariant.0 c.self.invariant.1 c.in_err-add.ensures.err.0 c.in_err-add.ensures.err.1 in
    (same.0, same.1, c.self.invariant.2)

pub invariant_of-self-2 : goal.invariant_of-self-2
invariant_of-self-2 c =
    let x : Index = record { opening = c.self.inside.opening; greatest = c.self.inside.greatest; rows = c.self.inside.rows.items } in
    let both = all_added x c.args.row c.args.places.now c.in_ok-placed.placed c.self.inside.names.items c.self.invariant.0 c.self.invariant.1 (rw (← c.self.view_is) at c.requires) c.in_ok-placed.ensures
    c.add.new.rows.items c.add.new.names.items c.in_ok-add.ensures.rows c.add.ensures.order c.in_ok-add.ensures.ok in
    (both.0, both.1, c.self.invariant.2)
