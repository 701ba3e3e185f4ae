use Rattle.hk_serve.proofs.LawLemmas.{one_connection}
use Rattle.hk_serve.proofs.laws.connections_are_those_of_the_bytes.Goals as goal

pub returns : goal.returns
returns c = one_connection c.requests_are_those_of_the_bytes.ensures.requests
