-- The rows that the routes give are the rows that are written out.
use Rattle.std.proofs.Common.{◌≡◌, refl, codes}
use Rattle.matchit.specs.Order.{placed}
use Rattle.matchit.proofs.OnLiterals.{matchit_on_literals}
use Rattle.path_routes.specs.Routes.{RouteTable, with_route}
use Rattle.kms_rest.specs.Rows.{row_of, table, written}
use Rattle.kms_rest.specs.declared.place.Place.{Place}
use Rattle.kms_rest.specs.declared.place.Place.TheVariants as at

add-Keys : (rows : RouteTable Place) → with_route (codes "/kms/v1/keys") at.Keys rows ≡ placed (row_of at.Keys) rows
unfolding matchit_on_literals
add-Keys rows = refl

add-Key : (rows : RouteTable Place) → with_route (codes "/kms/v1/key/{k}") at.Key rows ≡ placed (row_of at.Key) rows
unfolding matchit_on_literals
add-Key rows = refl

add-KeyInvalidate : (rows : RouteTable Place) → with_route (codes "/kms/v1/key/{k}/_invalidatecache") at.KeyInvalidate rows ≡ placed (row_of at.KeyInvalidate) rows
unfolding matchit_on_literals
add-KeyInvalidate rows = refl

add-KeyMetadata : (rows : RouteTable Place) → with_route (codes "/kms/v1/key/{k}/_metadata") at.KeyMetadata rows ≡ placed (row_of at.KeyMetadata) rows
unfolding matchit_on_literals
add-KeyMetadata rows = refl

add-KeyCurrent : (rows : RouteTable Place) → with_route (codes "/kms/v1/key/{k}/_currentversion") at.KeyCurrent rows ≡ placed (row_of at.KeyCurrent) rows
unfolding matchit_on_literals
add-KeyCurrent rows = refl

add-KeyVersions : (rows : RouteTable Place) → with_route (codes "/kms/v1/key/{k}/_versions") at.KeyVersions rows ≡ placed (row_of at.KeyVersions) rows
unfolding matchit_on_literals
add-KeyVersions rows = refl

add-KeyEek : (rows : RouteTable Place) → with_route (codes "/kms/v1/key/{k}/_eek") at.KeyEek rows ≡ placed (row_of at.KeyEek) rows
unfolding matchit_on_literals
add-KeyEek rows = refl

add-KeyBatch : (rows : RouteTable Place) → with_route (codes "/kms/v1/key/{k}/_reencryptbatch") at.KeyBatch rows ≡ placed (row_of at.KeyBatch) rows
unfolding matchit_on_literals
add-KeyBatch rows = refl

add-Version : (rows : RouteTable Place) → with_route (codes "/kms/v1/keyversion/{v}") at.Version rows ≡ placed (row_of at.Version) rows
unfolding matchit_on_literals
add-Version rows = refl

add-VersionEek : (rows : RouteTable Place) → with_route (codes "/kms/v1/keyversion/{v}/_eek") at.VersionEek rows ≡ placed (row_of at.VersionEek) rows
unfolding matchit_on_literals
add-VersionEek rows = refl

add-Names : (rows : RouteTable Place) → with_route (codes "/kms/v1/keys/names") at.Names rows ≡ placed (row_of at.Names) rows
unfolding matchit_on_literals
add-Names rows = refl

add-Metadatas : (rows : RouteTable Place) → with_route (codes "/kms/v1/keys/metadata") at.Metadatas rows ≡ placed (row_of at.Metadatas) rows
unfolding matchit_on_literals
add-Metadatas rows = refl

pub table-written : table ≡ written
table-written = rw (add-Metadatas, add-Names, add-VersionEek, add-Version, add-KeyBatch, add-KeyEek, add-KeyVersions, add-KeyCurrent, add-KeyMetadata, add-KeyInvalidate, add-Key, add-Keys) refl
