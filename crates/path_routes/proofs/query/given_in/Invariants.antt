use Rattle.std.proofs.Common.{take}
use Rattle.path_routes.specs.Queries.{IsGiven, values}
use Rattle.path_routes.proofs.query.given_in.Given as goal

abbrev pub invariant-parameters : goal.invariant-parameters
invariant-parameters l = IsGiven (values l.name (take l.parameter-index l.parameters.items)) l.found
