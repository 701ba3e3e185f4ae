use Rattle.key_index.specs.Index.{Index}
use Rattle.key_index.proofs.Searches.{nothing}
use Rattle.key_index.proofs.Sounds.{absent_placed, created, kept}
use Rattle.key_index.proofs.index.KeyIndex.create.Goals as goal

pub insert-requires-clause-order : goal.insert-requires-clause-order
insert-requires-clause-order c = (c.self.invariant.1 nothing).order

pub insert-requires-clause-absent : goal.insert-requires-clause-absent
insert-requires-clause-absent c =
    let x : Index = record { opening = c.self.inside.opening; greatest = c.self.inside.greatest; rows = c.self.inside.rows.items } in
    absent_placed x c.args.row c.args.place c.in_ok-placed.placed c.self.inside.names.items c.self.invariant.0 c.self.invariant.1 (rw (← c.self.view_is) at c.requires.may) c.in_ok-placed.ensures.made

pub invariant_of-self-in_err-insert : goal.invariant_of-self-in_err-insert
invariant_of-self-in_err-insert c =
    let x : Index = record { opening = c.self.inside.opening; greatest = c.self.inside.greatest; rows = c.self.inside.rows.items } in
    let same = kept x c.insert.new.rows.items c.self.inside.names.items c.insert.new.names.items c.self.invariant.0 c.self.invariant.1 c.in_err-insert.ensures.err.0 c.in_err-insert.ensures.err.1 in
    (same.0, same.1, rw c.replace-buffer.ensures.after c.new.ensures.items)

pub invariant_of-self-2 : goal.invariant_of-self-2
invariant_of-self-2 c =
    let x : Index = record { opening = c.self.inside.opening; greatest = c.self.inside.greatest; rows = c.self.inside.rows.items } in
    let both = created x c.args.row c.args.place c.in_ok-placed.placed c.self.inside.names.items c.self.invariant.0 c.self.invariant.1 (rw (← c.self.view_is) at c.requires.may) c.in_ok-placed.ensures.made
    c.insert.new.rows.items c.insert.new.names.items c.requires.first c.in_ok-insert.ensures.rows c.insert.ensures.order c.in_ok-insert.ensures.ok in
    (both.0, both.1, rw c.replace-buffer.ensures.after c.new.ensures.items)
