use Rattle.key_index.specs.Index.{Index}
use Rattle.key_index.proofs.Walks.{moved_sound}
use Rattle.key_index.proofs.index.KeyIndex.place_row.Goals as goal

pub invariant_of-self : goal.invariant_of-self
invariant_of-self c =
    let x : Index = record { opening = c.self.inside.opening; greatest = c.self.inside.greatest; rows = c.self.inside.rows.items } in
    let both = moved_sound x c.self.inside.names.items c.args.number c.args.first c.place_at.new.rows.items c.self.invariant.0 c.self.invariant.1 (rw (← c.self.view_is) at c.requires.number) c.place_at.ensures in
    (both.0, both.1, c.self.invariant.2)
