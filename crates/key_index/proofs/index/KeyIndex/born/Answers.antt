use Rattle.key_index.proofs.index.KeyIndex.born.Goals as goal

pub row_at-requires : goal.row_at-requires
row_at-requires c = (c.self.inside.greatest, c.self.invariant.0.births)
