-- The operations of the key management service over REST, each with its method and the segments of its path.
use Rattle.std.specs.Prelude.{◌≡◌, ℕ, List, [], ◌∷◌, Some, None, codes}
use Rattle.path_routes.specs.Shapes.{FitsShape, Shape}
use Rattle.kms_rest.specs.declared.operation.Operation.{Operation}
use Rattle.kms_rest.specs.declared.operation.Operation.TheVariants as op

abbrev pub method_of : Operation → List ℕ
method_of op.Create = codes "POST"
method_of op.Roll = codes "POST"
method_of op.Delete = codes "DELETE"
method_of op.Invalidate = codes "POST"
method_of op.Metadata = codes "GET"
method_of op.Current = codes "GET"
method_of op.Versions = codes "GET"
method_of op.Generate = codes "GET"
method_of op.Batch = codes "POST"
method_of op.Version = codes "GET"
method_of op.Eek = codes "POST"
method_of op.Names = codes "GET"
method_of op.Metadatas = codes "GET"

-- the segments after `/kms/v1`
abbrev pub under_root : Shape → Shape
under_root shape = Some [] ∷ Some (codes "kms") ∷ Some (codes "v1") ∷ shape

-- `/key/K` and the segments after it
abbrev pub of_key : Shape → Shape
of_key shape = under_root (Some (codes "key") ∷ None ∷ shape)

-- `/keyversion/V` and the segments after it
abbrev pub of_version : Shape → Shape
of_version shape = under_root (Some (codes "keyversion") ∷ None ∷ shape)

abbrev pub shape_of : Operation → Shape
shape_of op.Create = under_root (Some (codes "keys") ∷ [])
shape_of op.Roll = of_key []
shape_of op.Delete = of_key []
shape_of op.Invalidate = of_key (Some (codes "_invalidatecache") ∷ [])
shape_of op.Metadata = of_key (Some (codes "_metadata") ∷ [])
shape_of op.Current = of_key (Some (codes "_currentversion") ∷ [])
shape_of op.Versions = of_key (Some (codes "_versions") ∷ [])
shape_of op.Generate = of_key (Some (codes "_eek") ∷ [])
shape_of op.Batch = of_key (Some (codes "_reencryptbatch") ∷ [])
shape_of op.Version = of_version []
shape_of op.Eek = of_version (Some (codes "_eek") ∷ [])
shape_of op.Names = under_root (Some (codes "keys") ∷ Some (codes "names") ∷ [])
shape_of op.Metadatas = under_root (Some (codes "keys") ∷ Some (codes "metadata") ∷ [])

-- the path belongs to the operation, with this open part
abbrev pub HasPath : List ℕ → Operation → List ℕ → Type 0
HasPath path operation part = FitsShape path (shape_of operation) part

-- Method and path name the operation, with this open part of the path.
pub record Routes (method path : List ℕ) (operation : Operation) (part : List ℕ) : Type 0 where
  pub fits : HasPath path operation part
  pub under : method ≡ method_of operation

-- the path belongs to no operation
abbrev pub HasNoRoute : List ℕ → Type 0
HasNoRoute path = (operation : Operation) (part : List ℕ) → ¬ HasPath path operation part

-- The path belongs to some operation, and each operation that it belongs to has another method.
pub record HasBadMethod (method path : List ℕ) : Type 0 where
  pub operation : Operation
  pub part : List ℕ
  pub fits : HasPath path operation part
  pub other : (other : Operation) (part : List ℕ) → ¬ Routes method path other part
