use Rattle.std.proofs.Common.{refl}
use Rattle.aes_core.proofs.Columns.{sum_is}
use Rattle.aes_core.proofs.rounds.plus_column_0.Goals as goal

pub returns-clause-column_0 : goal.returns-clause-column_0
returns-clause-column_0 c = rw (← c.byte_0.ensures) (sum_is _ c.product_0.result _ _ refl c.product_0.ensures)

pub returns-clause-column_1 : goal.returns-clause-column_1
returns-clause-column_1 c = rw (← c.byte_3.ensures) (sum_is _ c.product_3.result _ _ refl c.product_3.ensures)

pub returns-clause-column_2 : goal.returns-clause-column_2
returns-clause-column_2 c = rw (← c.byte_2.ensures) (sum_is _ c.product_2.result _ _ refl c.product_2.ensures)

pub returns-clause-column_3 : goal.returns-clause-column_3
returns-clause-column_3 c = rw (← c.byte_1.ensures) (sum_is _ c.product_1.result _ _ refl c.product_1.ensures)
