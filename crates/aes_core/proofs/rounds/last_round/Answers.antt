use Rattle.aes_core.specs.Aes.{shift_rows, sub_bytes}
use Rattle.aes_core.specs.Words.{state_bytes}
use Rattle.aes_core.proofs.Columns.{add_round_key-by_columns}
use Rattle.aes_core.proofs.rounds.last_round.Goals as goal

pub returns : goal.returns
unfolding shift_rows sub_bytes
returns c =
    add_round_key-by_columns c.args.words.now c.args.round (shift_rows (sub_bytes (state_bytes c.args.columns))) _ _ _ _
    c.last_column.ensures c.last_column-2.ensures c.last_column-3.ensures c.last_column-4.ensures
