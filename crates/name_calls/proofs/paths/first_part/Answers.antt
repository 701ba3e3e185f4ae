use Rattle.name_calls.proofs.PathLemmas.{first-at, first-all}
use Rattle.name_calls.proofs.paths.first_part.Goals as goal

pub returns-in-Some : goal.returns-in-Some
returns-in-Some c = (first-at c.args.bytes.now c.in-Some.at c.in-Some.ensures).0

pub returns-in-None : goal.returns-in-None
returns-in-None c = first-all c.args.bytes.now c.in-None.ensures
