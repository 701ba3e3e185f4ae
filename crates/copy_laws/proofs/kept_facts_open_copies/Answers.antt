use Rattle.copy_laws.proofs.LawLemmas.{kept_facts_open}
use Rattle.copy_laws.proofs.kept_facts_open_copies.Goals as goal

pub returns : goal.returns
returns c = kept_facts_open
