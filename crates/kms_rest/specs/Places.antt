-- The places of the service's paths as texts, and the operation at each place for a method.
use Rattle.std.specs.Prelude.{ℕ, List, [], ◌++◌, codes, cond, ◌≡◌, Option, Some, None, nat_eq}
use Rattle.std.specs.Cmp.Lexicographic.{pointwise}
use Rattle.path_routes.specs.Shapes.{IsSegment}
use Rattle.kms_rest.specs.declared.faults.RestFault.{RestFault}
use Rattle.kms_rest.specs.declared.faults.RestFault.TheVariants as fault
use Rattle.kms_rest.specs.declared.operation.Operation.{Operation}
use Rattle.kms_rest.specs.declared.operation.Operation.TheVariants as op
use Rattle.kms_rest.specs.declared.place.Place.{Place}
use Rattle.kms_rest.specs.declared.place.Place.TheVariants as at
use Rattle.kms_rest.specs.declared.place.Verb.{Verb}
use Rattle.kms_rest.specs.declared.place.Verb.TheVariants as verb
use Rattle.kms_rest.specs.Operations.{HasBadMethod, HasNoRoute}

-- the text of a place's paths before the open part
abbrev pub before : Place → List ℕ
before at.Keys = codes "/kms/v1/keys"
before at.Key = codes "/kms/v1/key/"
before at.KeyInvalidate = codes "/kms/v1/key/"
before at.KeyMetadata = codes "/kms/v1/key/"
before at.KeyCurrent = codes "/kms/v1/key/"
before at.KeyVersions = codes "/kms/v1/key/"
before at.KeyEek = codes "/kms/v1/key/"
before at.KeyBatch = codes "/kms/v1/key/"
before at.Version = codes "/kms/v1/keyversion/"
before at.VersionEek = codes "/kms/v1/keyversion/"
before at.Names = codes "/kms/v1/keys/names"
before at.Metadatas = codes "/kms/v1/keys/metadata"

-- and the text after it
abbrev pub after : Place → List ℕ
after at.Keys = []
after at.Key = []
after at.KeyInvalidate = codes "/_invalidatecache"
after at.KeyMetadata = codes "/_metadata"
after at.KeyCurrent = codes "/_currentversion"
after at.KeyVersions = codes "/_versions"
after at.KeyEek = codes "/_eek"
after at.KeyBatch = codes "/_reencryptbatch"
after at.Version = []
after at.VersionEek = codes "/_eek"
after at.Names = []
after at.Metadatas = []

-- what the open part of a place's paths can be: one segment, or nothing if no part is open
abbrev pub IsPartOfPlace : Place → List ℕ → Type 0
IsPartOfPlace at.Keys k = k ≡ []
IsPartOfPlace at.Key k = IsSegment k
IsPartOfPlace at.KeyInvalidate k = IsSegment k
IsPartOfPlace at.KeyMetadata k = IsSegment k
IsPartOfPlace at.KeyCurrent k = IsSegment k
IsPartOfPlace at.KeyVersions k = IsSegment k
IsPartOfPlace at.KeyEek k = IsSegment k
IsPartOfPlace at.KeyBatch k = IsSegment k
IsPartOfPlace at.Version k = IsSegment k
IsPartOfPlace at.VersionEek k = IsSegment k
IsPartOfPlace at.Names k = k ≡ []
IsPartOfPlace at.Metadatas k = k ≡ []

-- the path belongs to this place, with this open part
abbrev pub IsAt : List ℕ → Place → List ℕ → Type 0
IsAt path p k = (path ≡ before p ++ (k ++ after p)) × IsPartOfPlace p k

abbrev pub verb_of : List ℕ → Verb
verb_of method =
    cond (pointwise nat_eq method (codes "GET")) verb.Get
    (cond (pointwise nat_eq method (codes "POST")) verb.Post
    (cond (pointwise nat_eq method (codes "DELETE")) verb.Delete verb.Other))

-- the operation at a place for a method
abbrev pub operation_at : Place → Verb → Option Operation
operation_at at.Keys verb.Post = Some op.Create
operation_at at.Key verb.Post = Some op.Roll
operation_at at.Key verb.Delete = Some op.Delete
operation_at at.KeyInvalidate verb.Post = Some op.Invalidate
operation_at at.KeyMetadata verb.Get = Some op.Metadata
operation_at at.KeyCurrent verb.Get = Some op.Current
operation_at at.KeyVersions verb.Get = Some op.Versions
operation_at at.KeyEek verb.Get = Some op.Generate
operation_at at.KeyBatch verb.Post = Some op.Batch
operation_at at.Version verb.Get = Some op.Version
operation_at at.VersionEek verb.Post = Some op.Eek
operation_at at.Names verb.Get = Some op.Names
operation_at at.Metadatas verb.Get = Some op.Metadatas
operation_at _ _ = None

-- why a method and a path name no operation
abbrev pub IsUnrouted : List ℕ → List ℕ → RestFault → Type 0
IsUnrouted method path fault.NoRoute = HasNoRoute path
IsUnrouted method path fault.BadMethod = HasBadMethod method path
IsUnrouted method path fault.NoUser = ⊥
IsUnrouted method path fault.BadRequest = ⊥
IsUnrouted method path fault.NoMemory = ⊥
