use Rattle.kms_core.proofs.LawLemmas.{generated_opens, generated_decrypts, ready_first, ready_opens}
use Rattle.kms_core.proofs.laws.generated_keys_open.Goals as goal

pub returns-clause-ready : goal.returns-clause-ready
returns-clause-ready c = ready_first

pub returns-clause-ready_opens : goal.returns-clause-ready_opens
returns-clause-ready_opens c = ready_opens

pub returns-clause-opens : goal.returns-clause-opens
returns-clause-opens c = generated_opens

pub returns-clause-decrypts : goal.returns-clause-decrypts
returns-clause-decrypts c = generated_decrypts
