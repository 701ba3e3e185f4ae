use Rattle.std.proofs.Common.{◌∙◌, ap, map}
use Rattle.path_routes.specs.Queries.{parameter}
use Rattle.path_routes.proofs.QueryLemmas.{map-at}
use Rattle.path_routes.proofs.query.Query.read.Goals as goal

pub returns : goal.returns
returns c = c.in_ok-parameters.ensures ∙ map-at c.in_ok-pieces.pieces.items ∙ ap (map parameter) c.in_ok-pieces.ensures
