use Rattle.copy_laws.proofs.LawLemmas.{read_back}
use Rattle.copy_laws.proofs.copies_are_read_back.Goals as goal

pub returns : goal.returns
returns c = read_back
