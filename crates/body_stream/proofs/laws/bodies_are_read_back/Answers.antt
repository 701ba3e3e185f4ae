use Rattle.body_stream.proofs.LawLemmas.{read_back, undone}
use Rattle.body_stream.proofs.laws.bodies_are_read_back.Goals as goal

pub returns-clause-range : goal.returns-clause-range
returns-clause-range c = read_back

pub returns-clause-undone : goal.returns-clause-undone
returns-clause-undone c = undone
