use Rattle.kms_core.proofs.LawLemmas.{decrypt_opens}
use Rattle.kms_core.proofs.UserLemmas.{permitted_decrypt_opens}
use Rattle.kms_core.proofs.laws.decrypt_opens.Goals as goal

pub returns-clause-opens : goal.returns-clause-opens
returns-clause-opens c = decrypt_opens

pub returns-clause-permitted : goal.returns-clause-permitted
returns-clause-permitted c = permitted_decrypt_opens
