use Rattle.aes_core.specs.Aes.{state_after}
use Rattle.aes_core.proofs.rounds.encrypted.Goals as goal

pub returns : goal.returns
unfolding state_after
returns g c = c.finished.ensures c.args.block.now c.first_columns.ensures
