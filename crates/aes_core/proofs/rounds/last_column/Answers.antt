use Rattle.aes_core.proofs.Columns.{last_column_is}
use Rattle.aes_core.proofs.rounds.last_column.Goals as goal

pub returns : goal.returns
returns c =
    rw (← c.byte_0.ensures, ← c.byte_1.ensures, ← c.byte_2.ensures, ← c.byte_3.ensures)
    (last_column_is c.last_0.result c.last_1.result c.last_2.result c.last_3.result c.word_of.result _ _ _ _ _
    c.last_0.ensures c.last_1.ensures c.last_2.ensures c.last_3.ensures c.word_of.ensures)
