-- The order that an operation makes of the query, or the first fault: those of parameters come before those of paths.
use Rattle.std.specs.Prelude.{ℕ, Bool, true, false, List, [], ◌∷◌, codes, Result, Ok, Err, if◌then◌else◌}
use Rattle.std.specs.Option.{ok_or}
use Rattle.std.specs.Str.{bytes_eq}
use Rattle.hk_base.specs.Names.{is_key_name}
use Rattle.name_calls.specs.declared.calls.Ask.TheVariants as ask
use Rattle.name_calls.specs.declared.calls.NameCall.TheVariants as call
use Rattle.name_calls.specs.declared.read_paths.ReadPath.{ReadPath}
use Rattle.name_calls.specs.Paths.{is_component, read_path}
use Rattle.name_calls.specs.ReadPaths.{read_any_path}
use Rattle.path_routes.specs.declared.query.Parameter.{Parameter}
use Rattle.path_routes.specs.Queries.{values}
use Rattle.name_rest.specs.declared.faults.NameRestFault.{NameRestFault}
use Rattle.name_rest.specs.declared.faults.NameRestFault.TheVariants as fault
use Rattle.name_rest.specs.declared.operation.Operation.{Operation}
use Rattle.name_rest.specs.declared.operation.Operation.TheVariants as op
use Rattle.name_rest.specs.declared.order.NameOrder.{NameOrder}
use Rattle.name_rest.specs.declared.order.NameOrder.TheVariants as order

-- what is read of a request, or a fault
abbrev pub OrderReading : Type 0 → Type 0
OrderReading A = Result A NameRestFault

-- the next step on what was read, or the earlier fault
abbrev pub and_then : {A B : Type 0} → OrderReading A → (A → OrderReading B) → OrderReading B
and_then (Ok a) next = next a
and_then (Err e) next = Err e

-- ---- the parameters of the query

-- the value of a parameter that must be given once, from all its values
abbrev pub only : List (List ℕ) → OrderReading (List ℕ)
only [] = Err fault.BadRequest
only (value ∷ []) = Ok value
only (value ∷ second ∷ more) = Err fault.BadRequest

abbrev pub needed : List ℕ → List Parameter → OrderReading (List ℕ)
needed name ps = only (values name ps)

abbrev pub flag_of : List ℕ → OrderReading Bool
flag_of value = if bytes_eq value (codes "true") then Ok true else if bytes_eq value (codes "false") then Ok false else Err fault.BadRequest

-- a flag that is false if the parameter is absent
abbrev pub flag_or_false : List (List ℕ) → OrderReading Bool
flag_or_false [] = Ok false
flag_or_false (value ∷ []) = flag_of value
flag_or_false (value ∷ second ∷ more) = Err fault.BadRequest

abbrev pub recursive_in : List Parameter → OrderReading Bool
recursive_in ps = flag_or_false (values (codes "recursive") ps)

abbrev pub key_of : List ℕ → OrderReading (List ℕ)
key_of value = if is_key_name value then Ok value else Err fault.BadRequest

abbrev pub key_in : List Parameter → OrderReading (List ℕ)
key_in ps = and_then (needed (codes "key") ps) key_of

-- an absolute path, or one that may lead through a snapshot, and the name of a snapshot
abbrev pub path_of : List ℕ → OrderReading (List (List ℕ))
path_of text = ok_or (read_path text) fault.BadPath

abbrev pub any_path_of : List ℕ → OrderReading ReadPath
any_path_of text = ok_or (read_any_path text) fault.BadPath

abbrev pub snapshot_name_of : List ℕ → OrderReading (List ℕ)
snapshot_name_of text = if is_component text then Ok text else Err fault.BadPath

abbrev pub path_in : List Parameter → OrderReading (List (List ℕ))
path_in ps = and_then (needed (codes "path") ps) path_of

abbrev pub any_path_in : List Parameter → OrderReading ReadPath
any_path_in ps = and_then (needed (codes "path") ps) any_path_of

-- ---- orders

-- an order on the path in `path`
abbrev pub on_path : List Parameter → (List (List ℕ) → NameOrder) → OrderReading NameOrder
on_path ps made = and_then (path_in ps) (λ path. Ok (made path))

abbrev pub on_any_path : List Parameter → (ReadPath → NameOrder) → OrderReading NameOrder
on_any_path ps made = and_then (any_path_in ps) (λ path. Ok (made path))

abbrev pub delete_in : List Parameter → OrderReading NameOrder
delete_in ps =
    and_then (needed (codes "path") ps) (λ text.
    and_then (recursive_in ps) (λ recursive.
    and_then (path_of text) (λ path. Ok (order.Call (call.Delete path recursive)))))

abbrev pub rename_in : List Parameter → OrderReading NameOrder
rename_in ps =
    and_then (needed (codes "path") ps) (λ text.
    and_then (needed (codes "to") ps) (λ other.
    and_then (path_of text) (λ path.
    and_then (path_of other) (λ to. Ok (order.Call (call.Rename path to))))))

abbrev pub zone_in : List Parameter → OrderReading NameOrder
zone_in ps =
    and_then (needed (codes "path") ps) (λ text.
    and_then (key_in ps) (λ key.
    and_then (path_of text) (λ path. Ok (order.Ask (ask.Zone path key)))))

-- an order on a directory and one of its snapshots
abbrev pub on_snapshot : List Parameter → (List (List ℕ) → List ℕ → NameOrder) → OrderReading NameOrder
on_snapshot ps made =
    and_then (needed (codes "path") ps) (λ text.
    and_then (needed (codes "name") ps) (λ name.
    and_then (path_of text) (λ path.
    and_then (snapshot_name_of name) (λ snapshot. Ok (made path snapshot)))))

-- the order of an operation
abbrev pub order_of : Operation → List Parameter → OrderReading NameOrder
order_of op.Mkdir ps = on_path ps (λ path. order.Call (call.Mkdir path))
order_of op.Create ps = on_path ps (λ path. order.Ask (ask.Create path))
order_of op.Delete ps = delete_in ps
order_of op.Rename ps = rename_in ps
order_of op.Zone ps = zone_in ps
order_of op.Reencrypt ps = on_path ps (λ path. order.Ask (ask.Submit path))
order_of op.Cancel ps = on_path ps (λ path. order.Call (call.Cancel path))
order_of op.Allow ps = on_path ps (λ path. order.Call (call.Allow path))
order_of op.Disallow ps = on_path ps (λ path. order.Call (call.Disallow path))
order_of op.Snapshot ps = on_snapshot ps (λ path name. order.Call (call.Snap path name))
order_of op.Unsnapshot ps = on_snapshot ps (λ path name. order.Call (call.Unsnap path name))
order_of op.Info ps = on_any_path ps (λ path. order.Call (call.Info path))
order_of op.List ps = on_any_path ps (λ path. order.Call (call.List path))
order_of op.Status ps = on_path ps (λ path. order.Call (call.Status path))
order_of op.Zones ps = Ok (order.Call call.Zones)
