use Rattle.std.proofs.Common.{◌≡◌, map, take}
use Rattle.path_routes.specs.Queries.{parameter}
use Rattle.path_routes.proofs.query.read_parameters.Given as goal

abbrev pub invariant-pieces : goal.invariant-pieces
invariant-pieces l = l.parameters.items ≡ map (λ piece. parameter piece.now) (take l.piece-index l.pieces.items)
