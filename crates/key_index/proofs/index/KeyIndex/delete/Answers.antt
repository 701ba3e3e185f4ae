use Rattle.key_index.specs.Index.{Index}
use Rattle.key_index.proofs.Sounds.{named_delete, sound_delete}
use Rattle.key_index.proofs.index.KeyIndex.delete.Goals as goal

pub invariant_of-self : goal.invariant_of-self
invariant_of-self c =
    let x : Index = record { opening = c.self.inside.opening; greatest = c.self.inside.greatest; rows = c.self.inside.rows.items } in (
      rw c.remove.ensures (sound_delete x c.args.birth c.self.invariant.0),
      rw (c.remove.ensures, c.remove_birth.ensures) (named_delete x c.args.birth c.self.inside.names.items c.self.invariant.0 c.self.invariant.1),
      c.self.invariant.2,
    )
