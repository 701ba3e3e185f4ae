-- The rows that the routes give are the rows that are written out, and they give the operation of each path.
use Rattle.std.proofs.Common.{◌≡◌, ℕ, List, codes, Some, refl}
use Rattle.matchit.specs.Order.{placed}
use Rattle.matchit.specs.Seek.{first}
use Rattle.matchit.specs.Router.{RouteOf}
use Rattle.matchit.proofs.OnLiterals.{matchit_on_literals}
use Rattle.path_routes.specs.Routes.{RouteTable, with_route}
use Rattle.path_routes.proofs.SoundLemmas.{Each, Follows-literal, seek-sound}
use Rattle.name_rest.specs.Operations.{path_at}
use Rattle.name_rest.specs.Rows.{row_of, table, written}
use Rattle.name_rest.specs.declared.operation.Operation.{Operation}
use Rattle.name_rest.specs.declared.operation.Operation.TheVariants as op

add-Mkdir : (rows : RouteTable Operation) → with_route (codes "/nn/v1/mkdir") op.Mkdir rows ≡ placed (row_of op.Mkdir) rows
unfolding matchit_on_literals
add-Mkdir rows = refl

add-Create : (rows : RouteTable Operation) → with_route (codes "/nn/v1/create") op.Create rows ≡ placed (row_of op.Create) rows
unfolding matchit_on_literals
add-Create rows = refl

add-Delete : (rows : RouteTable Operation) → with_route (codes "/nn/v1/delete") op.Delete rows ≡ placed (row_of op.Delete) rows
unfolding matchit_on_literals
add-Delete rows = refl

add-Rename : (rows : RouteTable Operation) → with_route (codes "/nn/v1/rename") op.Rename rows ≡ placed (row_of op.Rename) rows
unfolding matchit_on_literals
add-Rename rows = refl

add-Zone : (rows : RouteTable Operation) → with_route (codes "/nn/v1/zone") op.Zone rows ≡ placed (row_of op.Zone) rows
unfolding matchit_on_literals
add-Zone rows = refl

add-Reencrypt : (rows : RouteTable Operation) → with_route (codes "/nn/v1/reencrypt") op.Reencrypt rows ≡ placed (row_of op.Reencrypt) rows
unfolding matchit_on_literals
add-Reencrypt rows = refl

add-Cancel : (rows : RouteTable Operation) → with_route (codes "/nn/v1/cancel") op.Cancel rows ≡ placed (row_of op.Cancel) rows
unfolding matchit_on_literals
add-Cancel rows = refl

add-Allow : (rows : RouteTable Operation) → with_route (codes "/nn/v1/allow") op.Allow rows ≡ placed (row_of op.Allow) rows
unfolding matchit_on_literals
add-Allow rows = refl

add-Disallow : (rows : RouteTable Operation) → with_route (codes "/nn/v1/disallow") op.Disallow rows ≡ placed (row_of op.Disallow) rows
unfolding matchit_on_literals
add-Disallow rows = refl

add-Snapshot : (rows : RouteTable Operation) → with_route (codes "/nn/v1/snapshot") op.Snapshot rows ≡ placed (row_of op.Snapshot) rows
unfolding matchit_on_literals
add-Snapshot rows = refl

add-Unsnapshot : (rows : RouteTable Operation) → with_route (codes "/nn/v1/unsnapshot") op.Unsnapshot rows ≡ placed (row_of op.Unsnapshot) rows
unfolding matchit_on_literals
add-Unsnapshot rows = refl

add-Info : (rows : RouteTable Operation) → with_route (codes "/nn/v1/info") op.Info rows ≡ placed (row_of op.Info) rows
unfolding matchit_on_literals
add-Info rows = refl

add-List : (rows : RouteTable Operation) → with_route (codes "/nn/v1/list") op.List rows ≡ placed (row_of op.List) rows
unfolding matchit_on_literals
add-List rows = refl

add-Status : (rows : RouteTable Operation) → with_route (codes "/nn/v1/status") op.Status rows ≡ placed (row_of op.Status) rows
unfolding matchit_on_literals
add-Status rows = refl

add-Zones : (rows : RouteTable Operation) → with_route (codes "/nn/v1/zones") op.Zones rows ≡ placed (row_of op.Zones) rows
unfolding matchit_on_literals
add-Zones rows = refl

pub table-written : table ≡ written
table-written = rw (add-Zones, add-Status, add-List, add-Info, add-Unsnapshot, add-Snapshot, add-Disallow, add-Allow, add-Cancel, add-Reencrypt, add-Zone, add-Rename, add-Delete, add-Create, add-Mkdir) refl

-- the path is that of the row's operation
abbrev Named : List ℕ → RouteOf Operation → Type 0
Named path r = path ≡ path_at r.value

each : (path : List ℕ) → Each (Named path) written path
each path =
    ((λ f. Follows-literal (path_at op.Allow) path refl f), ((λ f. Follows-literal (path_at op.Cancel) path refl f), ((λ f. Follows-literal (path_at op.Create) path refl f), ((λ f. Follows-literal (path_at op.Delete) path refl f), ((λ f. Follows-literal (path_at op.Disallow) path refl f), ((λ f. Follows-literal (path_at op.Info) path refl f), ((λ f. Follows-literal (path_at op.List) path refl f), ((λ f. Follows-literal (path_at op.Mkdir) path refl f), ((λ f. Follows-literal (path_at op.Reencrypt) path refl f), ((λ f. Follows-literal (path_at op.Rename) path refl f), ((λ f. Follows-literal (path_at op.Snapshot) path refl f), ((λ f. Follows-literal (path_at op.Status) path refl f), ((λ f. Follows-literal (path_at op.Unsnapshot) path refl f), ((λ f. Follows-literal (path_at op.Zones) path refl f), ((λ f. Follows-literal (path_at op.Zone) path refl f), tt)))))))))))))))

pub sound : (path : List ℕ) (r : RouteOf Operation) → first table path ≡ Some r → path ≡ path_at r.value
sound path r e = seek-sound (Named path) 0 written path r (each path) (rw table-written at e)

at_path : (o : Operation) → first written (path_at o) ≡ Some (row_of o).1
unfolding matchit_on_literals
at_path op.Mkdir = refl
at_path op.Create = refl
at_path op.Delete = refl
at_path op.Rename = refl
at_path op.Zone = refl
at_path op.Reencrypt = refl
at_path op.Cancel = refl
at_path op.Allow = refl
at_path op.Disallow = refl
at_path op.Snapshot = refl
at_path op.Unsnapshot = refl
at_path op.Info = refl
at_path op.List = refl
at_path op.Status = refl
at_path op.Zones = refl

pub complete : (path : List ℕ) (o : Operation) → path ≡ path_at o → first table path ≡ Some (row_of o).1
complete path o e = rw (table-written, e) (at_path o)
