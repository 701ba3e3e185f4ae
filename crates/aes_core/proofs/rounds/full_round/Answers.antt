use Rattle.aes_core.specs.Aes.{mix_columns, shift_rows, sub_bytes}
use Rattle.aes_core.specs.Words.{state_bytes}
use Rattle.aes_core.proofs.Columns.{add_round_key-by_columns}
use Rattle.aes_core.proofs.rounds.full_round.Goals as goal

pub returns : goal.returns
unfolding mix_columns shift_rows sub_bytes
returns c =
    add_round_key-by_columns c.args.words.now c.args.round (mix_columns (shift_rows (sub_bytes (state_bytes c.args.columns)))) _ _ _ _
    c.full_column.ensures c.full_column-2.ensures c.full_column-3.ensures c.full_column-4.ensures
