use Rattle.kms_rest.proofs.QueryLemmas.{NamesSoFar}
use Rattle.kms_rest.proofs.query.names_in.Given as goal

abbrev pub invariant-parameters : goal.invariant-parameters
invariant-parameters l = NamesSoFar l.parameters l.parameter-index l.names
