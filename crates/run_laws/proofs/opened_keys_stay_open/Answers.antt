use Rattle.run_laws.proofs.KeyLaws.{opened_keys_decrypt}
use Rattle.run_laws.proofs.OpenKeys.{opened_keys_stay_open}
use Rattle.run_laws.proofs.opened_keys_stay_open.Goals as goal

pub returns-clause-open : goal.returns-clause-open
returns-clause-open c = opened_keys_stay_open

pub returns-clause-decrypted : goal.returns-clause-decrypted
returns-clause-decrypted c = opened_keys_decrypt
