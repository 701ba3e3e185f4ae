use Rattle.body_stream.proofs.LawLemmas.{keeps_length, keeps_prefixes}
use Rattle.body_stream.proofs.laws.prefixes_are_stored_as_prefixes.Goals as goal

pub returns-clause-length : goal.returns-clause-length
returns-clause-length c = keeps_length

pub returns-clause-prefix : goal.returns-clause-prefix
returns-clause-prefix c = keeps_prefixes
