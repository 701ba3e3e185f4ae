-- The operations of the namesystem over REST, each with its method and its path.
use Rattle.std.specs.Prelude.{◌≡◌, ◌≢◌, ℕ, List, codes}
use Rattle.name_rest.specs.declared.faults.NameRestFault.{NameRestFault}
use Rattle.name_rest.specs.declared.faults.NameRestFault.TheVariants as fault
use Rattle.name_rest.specs.declared.operation.Operation.{Operation}
use Rattle.name_rest.specs.declared.operation.Operation.TheVariants as op

abbrev pub method_of : Operation → List ℕ
method_of op.Mkdir = codes "POST"
method_of op.Create = codes "POST"
method_of op.Delete = codes "POST"
method_of op.Rename = codes "POST"
method_of op.Zone = codes "POST"
method_of op.Reencrypt = codes "POST"
method_of op.Cancel = codes "POST"
method_of op.Allow = codes "POST"
method_of op.Disallow = codes "POST"
method_of op.Snapshot = codes "POST"
method_of op.Unsnapshot = codes "POST"
method_of op.Info = codes "GET"
method_of op.List = codes "GET"
method_of op.Status = codes "GET"
method_of op.Zones = codes "GET"

abbrev pub path_at : Operation → List ℕ
path_at op.Mkdir = codes "/nn/v1/mkdir"
path_at op.Create = codes "/nn/v1/create"
path_at op.Delete = codes "/nn/v1/delete"
path_at op.Rename = codes "/nn/v1/rename"
path_at op.Zone = codes "/nn/v1/zone"
path_at op.Reencrypt = codes "/nn/v1/reencrypt"
path_at op.Cancel = codes "/nn/v1/cancel"
path_at op.Allow = codes "/nn/v1/allow"
path_at op.Disallow = codes "/nn/v1/disallow"
path_at op.Snapshot = codes "/nn/v1/snapshot"
path_at op.Unsnapshot = codes "/nn/v1/unsnapshot"
path_at op.Info = codes "/nn/v1/info"
path_at op.List = codes "/nn/v1/list"
path_at op.Status = codes "/nn/v1/status"
path_at op.Zones = codes "/nn/v1/zones"

-- Method and path are those of the operation. The path is compared as it is, without decoding.
pub record Routes (method path : List ℕ) (operation : Operation) : Type 0 where
  pub there : path ≡ path_at operation
  pub under : method ≡ method_of operation

-- the path is that of no operation
abbrev pub HasNoRoute : List ℕ → Type 0
HasNoRoute path = (operation : Operation) → path ≢ path_at operation

-- The path is that of some operation, and each operation that has the path has another method.
pub record HasBadMethod (method path : List ℕ) : Type 0 where
  pub operation : Operation
  pub there : path ≡ path_at operation
  pub other : (other : Operation) → ¬ Routes method path other

-- why a method and a path name no operation
abbrev pub IsUnrouted : List ℕ → List ℕ → NameRestFault → Type 0
IsUnrouted method path fault.NoRoute = HasNoRoute path
IsUnrouted method path fault.BadMethod = HasBadMethod method path
IsUnrouted method path fault.NoUser = ⊥
IsUnrouted method path fault.BadRequest = ⊥
IsUnrouted method path fault.BadPath = ⊥
IsUnrouted method path fault.NoMemory = ⊥
