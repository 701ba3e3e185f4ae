use Rattle.aes_core.proofs.Columns.{add_round_key-by_columns, sum_is}
use Rattle.aes_core.proofs.rounds.first_columns.Goals as goal

pub returns : goal.returns
returns c =
    add_round_key-by_columns c.args.words.now 0 c.args.block.now _ _ _ _
    (sum_is _ _ _ _ c.word_of.ensures c.word_of-2.ensures)
    (sum_is _ _ _ _ c.word_of-3.ensures c.word_of-4.ensures)
    (sum_is _ _ _ _ c.word_of-5.ensures c.word_of-6.ensures)
    (sum_is _ _ _ _ c.word_of-7.ensures c.word_of-8.ensures)
