use Rattle.key_rows.proofs.Orders.{names_answered}
use Rattle.key_rows.proofs.table.KeyTable.names.Goals as goal

pub returns : goal.returns
returns c = rw (← c.self.view_is) (names_answered c.self.inside.rows.items c.self.inside.names.items c.copy_names.result c.self.invariant.1 c.copy_names.ensures)
