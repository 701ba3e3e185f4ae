-- The rows of the service's router: those that its routes give, and the same rows written out.
use Rattle.std.specs.Prelude.{ℕ, List, [], ◌∷◌, ◌++◌, codes}
use Rattle.matchit.specs.Router.{RouteOf}
use Rattle.path_routes.specs.Routes.{RouteTable, with_route}
use Rattle.kms_rest.specs.Places.{before, after}
use Rattle.kms_rest.specs.declared.place.Place.{Place}
use Rattle.kms_rest.specs.declared.place.Place.TheVariants as at

abbrev pub with_keys : RouteTable Place → RouteTable Place
with_keys rows =
    with_route (codes "/kms/v1/key/{k}/_metadata") at.KeyMetadata
    (with_route (codes "/kms/v1/key/{k}/_invalidatecache") at.KeyInvalidate
    (with_route (codes "/kms/v1/key/{k}") at.Key
    (with_route (codes "/kms/v1/keys") at.Keys rows)))

abbrev pub with_calls_of_a_key : RouteTable Place → RouteTable Place
with_calls_of_a_key rows =
    with_route (codes "/kms/v1/key/{k}/_reencryptbatch") at.KeyBatch
    (with_route (codes "/kms/v1/key/{k}/_eek") at.KeyEek
    (with_route (codes "/kms/v1/key/{k}/_versions") at.KeyVersions
    (with_route (codes "/kms/v1/key/{k}/_currentversion") at.KeyCurrent rows)))

abbrev pub with_versions_and_names : RouteTable Place → RouteTable Place
with_versions_and_names rows =
    with_route (codes "/kms/v1/keys/metadata") at.Metadatas
    (with_route (codes "/kms/v1/keys/names") at.Names
    (with_route (codes "/kms/v1/keyversion/{v}/_eek") at.VersionEek
    (with_route (codes "/kms/v1/keyversion/{v}") at.Version rows)))

abbrev pub table : RouteTable Place
table = with_versions_and_names (with_calls_of_a_key (with_keys []))

-- a row with this pattern, of a route of this text
abbrev pub row : List ℕ → List ℕ → List (ℕ × ℕ) → Place → List ℕ × RouteOf Place
row pattern text names p = (pattern, record { pattern = pattern; text = text; names = names; value = p })

abbrev pub row_of : Place → List ℕ × RouteOf Place
row_of at.Keys = row (before at.Keys) (codes "/kms/v1/keys") [] at.Keys
row_of at.Key = row (before at.Key ++ (256 ∷ after at.Key)) (codes "/kms/v1/key/{k}") ((13, 14) ∷ []) at.Key
row_of at.KeyInvalidate = row (before at.KeyInvalidate ++ (256 ∷ after at.KeyInvalidate)) (codes "/kms/v1/key/{k}/_invalidatecache") ((13, 14) ∷ []) at.KeyInvalidate
row_of at.KeyMetadata = row (before at.KeyMetadata ++ (256 ∷ after at.KeyMetadata)) (codes "/kms/v1/key/{k}/_metadata") ((13, 14) ∷ []) at.KeyMetadata
row_of at.KeyCurrent = row (before at.KeyCurrent ++ (256 ∷ after at.KeyCurrent)) (codes "/kms/v1/key/{k}/_currentversion") ((13, 14) ∷ []) at.KeyCurrent
row_of at.KeyVersions = row (before at.KeyVersions ++ (256 ∷ after at.KeyVersions)) (codes "/kms/v1/key/{k}/_versions") ((13, 14) ∷ []) at.KeyVersions
row_of at.KeyEek = row (before at.KeyEek ++ (256 ∷ after at.KeyEek)) (codes "/kms/v1/key/{k}/_eek") ((13, 14) ∷ []) at.KeyEek
row_of at.KeyBatch = row (before at.KeyBatch ++ (256 ∷ after at.KeyBatch)) (codes "/kms/v1/key/{k}/_reencryptbatch") ((13, 14) ∷ []) at.KeyBatch
row_of at.Version = row (before at.Version ++ (256 ∷ after at.Version)) (codes "/kms/v1/keyversion/{v}") ((20, 21) ∷ []) at.Version
row_of at.VersionEek = row (before at.VersionEek ++ (256 ∷ after at.VersionEek)) (codes "/kms/v1/keyversion/{v}/_eek") ((20, 21) ∷ []) at.VersionEek
row_of at.Names = row (before at.Names) (codes "/kms/v1/keys/names") [] at.Names
row_of at.Metadatas = row (before at.Metadatas) (codes "/kms/v1/keys/metadata") [] at.Metadatas

-- the rows in order
abbrev pub written : RouteTable Place
written =
    row_of at.KeyCurrent ∷ row_of at.KeyEek ∷ row_of at.KeyInvalidate ∷ row_of at.KeyMetadata ∷ row_of at.KeyBatch ∷ row_of at.KeyVersions ∷ row_of at.Key ∷ row_of at.Metadatas ∷ row_of at.Names ∷ row_of at.Keys ∷ row_of at.VersionEek ∷ row_of at.Version ∷ []
