use Rattle.http_wire.proofs.StreamLemmas.{begins_unique, requests_unique}
use Rattle.http_wire.proofs.laws.requests_are_those_of_the_bytes.Goals as goal

pub returns-clause-beginning : goal.returns-clause-beginning
returns-clause-beginning c = begins_unique

pub returns-clause-requests : goal.returns-clause-requests
returns-clause-requests c = requests_unique
