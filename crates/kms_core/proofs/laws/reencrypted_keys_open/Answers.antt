use Rattle.kms_core.proofs.ResealLemmas.{reencrypted_opens, batch_opens}
use Rattle.kms_core.proofs.laws.reencrypted_keys_open.Goals as goal

pub returns-clause-opens : goal.returns-clause-opens
returns-clause-opens c = reencrypted_opens

pub returns-clause-batch : goal.returns-clause-batch
returns-clause-batch c = batch_opens
