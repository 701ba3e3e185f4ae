-- The rows of the namesystem's router: those that its routes give, and the same rows written out.
use Rattle.std.specs.Prelude.{ℕ, List, [], ◌∷◌, codes}
use Rattle.matchit.specs.Router.{RouteOf}
use Rattle.path_routes.specs.Routes.{RouteTable, with_route}
use Rattle.name_rest.specs.Operations.{path_at}
use Rattle.name_rest.specs.declared.operation.Operation.{Operation}
use Rattle.name_rest.specs.declared.operation.Operation.TheVariants as op

abbrev pub with_changes : RouteTable Operation → RouteTable Operation
with_changes rows =
    with_route (codes "/nn/v1/rename") op.Rename
    (with_route (codes "/nn/v1/delete") op.Delete
    (with_route (codes "/nn/v1/create") op.Create
    (with_route (codes "/nn/v1/mkdir") op.Mkdir rows)))

abbrev pub with_zones : RouteTable Operation → RouteTable Operation
with_zones rows =
    with_route (codes "/nn/v1/cancel") op.Cancel
    (with_route (codes "/nn/v1/reencrypt") op.Reencrypt
    (with_route (codes "/nn/v1/zone") op.Zone rows))

abbrev pub with_snapshots : RouteTable Operation → RouteTable Operation
with_snapshots rows =
    with_route (codes "/nn/v1/unsnapshot") op.Unsnapshot
    (with_route (codes "/nn/v1/snapshot") op.Snapshot
    (with_route (codes "/nn/v1/disallow") op.Disallow
    (with_route (codes "/nn/v1/allow") op.Allow rows)))

abbrev pub table : RouteTable Operation
table =
    with_route (codes "/nn/v1/zones") op.Zones
    (with_route (codes "/nn/v1/status") op.Status
    (with_route (codes "/nn/v1/list") op.List
    (with_route (codes "/nn/v1/info") op.Info (with_snapshots (with_zones (with_changes []))))))

-- the row of an operation: its path, without an open part
abbrev pub row_of : Operation → List ℕ × RouteOf Operation
row_of o = (path_at o, record { pattern = path_at o; text = path_at o; names = []; value = o })

-- the rows in order
abbrev pub written : RouteTable Operation
written =
    row_of op.Allow ∷ row_of op.Cancel ∷ row_of op.Create ∷ row_of op.Delete ∷ row_of op.Disallow ∷ row_of op.Info ∷ row_of op.List ∷ row_of op.Mkdir ∷ row_of op.Reencrypt ∷ row_of op.Rename ∷ row_of op.Snapshot ∷ row_of op.Status ∷ row_of op.Unsnapshot ∷ row_of op.Zones ∷ row_of op.Zone ∷ []
