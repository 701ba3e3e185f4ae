use Rattle.run_laws.proofs.KeyLaws.{ready_keys_are_current}
use Rattle.run_laws.proofs.ready_keys_are_current.Goals as goal

pub returns : goal.returns
returns c = ready_keys_are_current
