use Rattle.key_rows.proofs.Orders.{names_answered}
use Rattle.key_index.specs.Index.{rows_of}
use Rattle.key_index.proofs.index.KeyIndex.names.Goals as goal

pub returns : goal.returns
returns c m = rw (← c.self.view_is) (names_answered (rows_of m c.self.inside.rows.items) c.self.inside.names.items c.copy_names.result (c.self.invariant.1 m) c.copy_names.ensures)
