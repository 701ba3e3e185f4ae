use Rattle.aes_core.proofs.Columns.{full_column_is}
use Rattle.aes_core.proofs.round_tables.full_column.Goals as goal

pub returns : goal.returns
returns c =
    rw (← c.byte_0.ensures, ← c.byte_1.ensures, ← c.byte_2.ensures, ← c.byte_3.ensures)
    (full_column_is c.product_0.result c.product_1.result c.product_2.result c.product_3.result c.word_of.result _ _ _ _ _
    c.product_0.ensures c.product_1.ensures c.product_2.ensures c.product_3.ensures c.word_of.ensures)
