use Rattle.data_stream.proofs.LawLemmas.{read_back}
use Rattle.data_stream.proofs.laws.bodies_are_read_back.Goals as goal

pub returns : goal.returns
returns c = read_back
