use Rattle.key_index.proofs.index.KeyIndex.named.Goals as goal

pub row_of-requires-clause-rising : goal.row_of-requires-clause-rising
row_of-requires-clause-rising c = (c.self.inside.greatest, c.self.invariant.0.births)
