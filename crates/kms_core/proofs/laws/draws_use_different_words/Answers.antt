use Rattle.kms_core.proofs.LawLemmas.{draws_read_their_own, draws_apart}
use Rattle.kms_core.proofs.laws.draws_use_different_words.Goals as goal

pub returns-clause-own : goal.returns-clause-own
returns-clause-own c = draws_read_their_own

pub returns-clause-apart : goal.returns-clause-apart
returns-clause-apart c = draws_apart
