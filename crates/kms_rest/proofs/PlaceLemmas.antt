-- A path that has the segments of a place belongs to it as a text, and the other way round; and which operation
-- is at which place.
use Rattle.std.proofs.Common.{◌≡◌, ◌≢◌, ℕ, List, [], ◌∷◌, ◌++◌, codes, Some, None, refl, sym, ap, ◌∙◌, append-nil, drop, subst}
use Rattle.path_routes.specs.Shapes.{FitsShape, Shape, filled, segments}
use Rattle.path_routes.proofs.SegmentLemmas.{path-filled, clear-filled, segments-end, segments-cut}
use Rattle.kms_rest.specs.declared.operation.Operation.{Operation}
use Rattle.kms_rest.specs.declared.operation.Operation.TheVariants as op
use Rattle.kms_rest.specs.declared.place.Place.{Place}
use Rattle.kms_rest.specs.declared.place.Place.TheVariants as at
use Rattle.kms_rest.specs.declared.place.Verb.{Verb}
use Rattle.kms_rest.specs.declared.place.Verb.TheVariants as verb
use Rattle.kms_rest.specs.Operations.{method_of, shape_of}
use Rattle.kms_rest.specs.Places.{IsAt, after, before, operation_at, verb_of}

-- the segments of a place's paths: texts, and the open part
abbrev pub shape_at : Place → Shape
shape_at at.Keys = Some [] ∷ Some (codes "kms") ∷ Some (codes "v1") ∷ Some (codes "keys") ∷ []
shape_at at.Key = Some [] ∷ Some (codes "kms") ∷ Some (codes "v1") ∷ Some (codes "key") ∷ None ∷ []
shape_at at.KeyInvalidate = Some [] ∷ Some (codes "kms") ∷ Some (codes "v1") ∷ Some (codes "key") ∷ None ∷ Some (codes "_invalidatecache") ∷ []
shape_at at.KeyMetadata = Some [] ∷ Some (codes "kms") ∷ Some (codes "v1") ∷ Some (codes "key") ∷ None ∷ Some (codes "_metadata") ∷ []
shape_at at.KeyCurrent = Some [] ∷ Some (codes "kms") ∷ Some (codes "v1") ∷ Some (codes "key") ∷ None ∷ Some (codes "_currentversion") ∷ []
shape_at at.KeyVersions = Some [] ∷ Some (codes "kms") ∷ Some (codes "v1") ∷ Some (codes "key") ∷ None ∷ Some (codes "_versions") ∷ []
shape_at at.KeyEek = Some [] ∷ Some (codes "kms") ∷ Some (codes "v1") ∷ Some (codes "key") ∷ None ∷ Some (codes "_eek") ∷ []
shape_at at.KeyBatch = Some [] ∷ Some (codes "kms") ∷ Some (codes "v1") ∷ Some (codes "key") ∷ None ∷ Some (codes "_reencryptbatch") ∷ []
shape_at at.Version = Some [] ∷ Some (codes "kms") ∷ Some (codes "v1") ∷ Some (codes "keyversion") ∷ None ∷ []
shape_at at.VersionEek = Some [] ∷ Some (codes "kms") ∷ Some (codes "v1") ∷ Some (codes "keyversion") ∷ None ∷ Some (codes "_eek") ∷ []
shape_at at.Names = Some [] ∷ Some (codes "kms") ∷ Some (codes "v1") ∷ Some (codes "keys") ∷ Some (codes "names") ∷ []
shape_at at.Metadatas = Some [] ∷ Some (codes "kms") ∷ Some (codes "v1") ∷ Some (codes "keys") ∷ Some (codes "metadata") ∷ []

pub to_text : (path : List ℕ) (p : Place) (k : List ℕ) → FitsShape path (shape_at p) k → IsAt path p k
to_text path at.Keys k f = (path-filled path (filled (shape_at at.Keys) k) f.0 ∙ ap (λ z. before at.Keys ++ (z ++ [])) (sym f.1), f.1)
to_text path at.Key k f = (path-filled path (filled (shape_at at.Key) k) f.0 ∙ ap (λ z. before at.Key ++ z) (sym (append-nil k)), (f.1, (clear-filled path (filled (shape_at at.Key) k) f.0).1.1.1.1.0))
to_text path at.KeyInvalidate k f = (path-filled path (filled (shape_at at.KeyInvalidate) k) f.0, (f.1, (clear-filled path (filled (shape_at at.KeyInvalidate) k) f.0).1.1.1.1.0))
to_text path at.KeyMetadata k f = (path-filled path (filled (shape_at at.KeyMetadata) k) f.0, (f.1, (clear-filled path (filled (shape_at at.KeyMetadata) k) f.0).1.1.1.1.0))
to_text path at.KeyCurrent k f = (path-filled path (filled (shape_at at.KeyCurrent) k) f.0, (f.1, (clear-filled path (filled (shape_at at.KeyCurrent) k) f.0).1.1.1.1.0))
to_text path at.KeyVersions k f = (path-filled path (filled (shape_at at.KeyVersions) k) f.0, (f.1, (clear-filled path (filled (shape_at at.KeyVersions) k) f.0).1.1.1.1.0))
to_text path at.KeyEek k f = (path-filled path (filled (shape_at at.KeyEek) k) f.0, (f.1, (clear-filled path (filled (shape_at at.KeyEek) k) f.0).1.1.1.1.0))
to_text path at.KeyBatch k f = (path-filled path (filled (shape_at at.KeyBatch) k) f.0, (f.1, (clear-filled path (filled (shape_at at.KeyBatch) k) f.0).1.1.1.1.0))
to_text path at.Version k f = (path-filled path (filled (shape_at at.Version) k) f.0 ∙ ap (λ z. before at.Version ++ z) (sym (append-nil k)), (f.1, (clear-filled path (filled (shape_at at.Version) k) f.0).1.1.1.1.0))
to_text path at.VersionEek k f = (path-filled path (filled (shape_at at.VersionEek) k) f.0, (f.1, (clear-filled path (filled (shape_at at.VersionEek) k) f.0).1.1.1.1.0))
to_text path at.Names k f = (path-filled path (filled (shape_at at.Names) k) f.0 ∙ ap (λ z. before at.Names ++ (z ++ [])) (sym f.1), f.1)
to_text path at.Metadatas k f = (path-filled path (filled (shape_at at.Metadatas) k) f.0 ∙ ap (λ z. before at.Metadatas ++ (z ++ [])) (sym f.1), f.1)

-- the segments before the open part
abbrev in_front : Place → List (List ℕ) → List (List ℕ)
in_front at.Version rest = [] ∷ codes "kms" ∷ codes "v1" ∷ codes "keyversion" ∷ rest
in_front at.VersionEek rest = [] ∷ codes "kms" ∷ codes "v1" ∷ codes "keyversion" ∷ rest
in_front _ rest = [] ∷ codes "kms" ∷ codes "v1" ∷ codes "key" ∷ rest

pub to_segments : (path : List ℕ) (p : Place) (k : List ℕ) → IsAt path p k → FitsShape path (shape_at p) k
to_segments path at.Keys k f = (ap segments (f.0 ∙ ap (λ z. before at.Keys ++ (z ++ [])) f.1), f.1)
to_segments path at.Key k f = (ap segments (f.0 ∙ ap (λ z. before at.Key ++ z) (append-nil k)) ∙ ap (in_front at.Key) (segments-end k f.1.1), f.1.0)
to_segments path at.KeyInvalidate k f = (ap segments f.0 ∙ ap (in_front at.KeyInvalidate) (segments-cut k (drop 1 (after at.KeyInvalidate)) f.1.1), f.1.0)
to_segments path at.KeyMetadata k f = (ap segments f.0 ∙ ap (in_front at.KeyMetadata) (segments-cut k (drop 1 (after at.KeyMetadata)) f.1.1), f.1.0)
to_segments path at.KeyCurrent k f = (ap segments f.0 ∙ ap (in_front at.KeyCurrent) (segments-cut k (drop 1 (after at.KeyCurrent)) f.1.1), f.1.0)
to_segments path at.KeyVersions k f = (ap segments f.0 ∙ ap (in_front at.KeyVersions) (segments-cut k (drop 1 (after at.KeyVersions)) f.1.1), f.1.0)
to_segments path at.KeyEek k f = (ap segments f.0 ∙ ap (in_front at.KeyEek) (segments-cut k (drop 1 (after at.KeyEek)) f.1.1), f.1.0)
to_segments path at.KeyBatch k f = (ap segments f.0 ∙ ap (in_front at.KeyBatch) (segments-cut k (drop 1 (after at.KeyBatch)) f.1.1), f.1.0)
to_segments path at.Version k f = (ap segments (f.0 ∙ ap (λ z. before at.Version ++ z) (append-nil k)) ∙ ap (in_front at.Version) (segments-end k f.1.1), f.1.0)
to_segments path at.VersionEek k f = (ap segments f.0 ∙ ap (in_front at.VersionEek) (segments-cut k (drop 1 (after at.VersionEek)) f.1.1), f.1.0)
to_segments path at.Names k f = (ap segments (f.0 ∙ ap (λ z. before at.Names ++ (z ++ [])) f.1), f.1)
to_segments path at.Metadatas k f = (ap segments (f.0 ∙ ap (λ z. before at.Metadatas ++ (z ++ [])) f.1), f.1)

-- the place of an operation
abbrev pub place_of : Operation → Place
place_of op.Create = at.Keys
place_of op.Roll = at.Key
place_of op.Delete = at.Key
place_of op.Invalidate = at.KeyInvalidate
place_of op.Metadata = at.KeyMetadata
place_of op.Current = at.KeyCurrent
place_of op.Versions = at.KeyVersions
place_of op.Generate = at.KeyEek
place_of op.Batch = at.KeyBatch
place_of op.Version = at.Version
place_of op.Eek = at.VersionEek
place_of op.Names = at.Names
place_of op.Metadatas = at.Metadatas

pub shape_of_place : (operation : Operation) → shape_of operation ≡ shape_at (place_of operation)
shape_of_place op.Create = refl
shape_of_place op.Roll = refl
shape_of_place op.Delete = refl
shape_of_place op.Invalidate = refl
shape_of_place op.Metadata = refl
shape_of_place op.Current = refl
shape_of_place op.Versions = refl
shape_of_place op.Generate = refl
shape_of_place op.Batch = refl
shape_of_place op.Version = refl
shape_of_place op.Eek = refl
shape_of_place op.Names = refl
shape_of_place op.Metadatas = refl

-- an operation is at its place for its method
pub stands_there : (operation : Operation) → operation_at (place_of operation) (verb_of (method_of operation)) ≡ Some operation
stands_there op.Create = refl
stands_there op.Roll = refl
stands_there op.Delete = refl
stands_there op.Invalidate = refl
stands_there op.Metadata = refl
stands_there op.Current = refl
stands_there op.Versions = refl
stands_there op.Generate = refl
stands_there op.Batch = refl
stands_there op.Version = refl
stands_there op.Eek = refl
stands_there op.Names = refl
stands_there op.Metadatas = refl

-- the text of a method that has operations
abbrev pub text_of : Verb → List ℕ
text_of verb.Get = codes "GET"
text_of verb.Post = codes "POST"
text_of verb.Delete = codes "DELETE"
text_of verb.Other = []

-- the operation at a place for a method belongs to that place and that method
pub record Stands (place : Place) (v : Verb) (operation : Operation) : Type 0 where
  pub where_ : place ≡ place_of operation
  pub under : text_of v ≡ method_of operation
  pub known : v ≢ verb.Other

pub some_same : (a b : Operation) → Some a ≡ Some b → a ≡ b
some_same a b e = cc

pub only_there : (place : Place) (v : Verb) (operation : Operation) → operation_at place v ≡ Some operation → Stands place v operation
only_there at.Keys verb.Get operation e = cc
only_there at.Keys verb.Post operation e = subst (Stands at.Keys verb.Post) (some_same op.Create operation e) record { where_ = refl; under = refl; known = λ q. cc }
only_there at.Keys verb.Delete operation e = cc
only_there at.Keys verb.Other operation e = cc
only_there at.Key verb.Get operation e = cc
only_there at.Key verb.Post operation e = subst (Stands at.Key verb.Post) (some_same op.Roll operation e) record { where_ = refl; under = refl; known = λ q. cc }
only_there at.Key verb.Delete operation e = subst (Stands at.Key verb.Delete) (some_same op.Delete operation e) record { where_ = refl; under = refl; known = λ q. cc }
only_there at.Key verb.Other operation e = cc
only_there at.KeyInvalidate verb.Get operation e = cc
only_there at.KeyInvalidate verb.Post operation e = subst (Stands at.KeyInvalidate verb.Post) (some_same op.Invalidate operation e) record { where_ = refl; under = refl; known = λ q. cc }
only_there at.KeyInvalidate verb.Delete operation e = cc
only_there at.KeyInvalidate verb.Other operation e = cc
only_there at.KeyMetadata verb.Get operation e = subst (Stands at.KeyMetadata verb.Get) (some_same op.Metadata operation e) record { where_ = refl; under = refl; known = λ q. cc }
only_there at.KeyMetadata verb.Post operation e = cc
only_there at.KeyMetadata verb.Delete operation e = cc
only_there at.KeyMetadata verb.Other operation e = cc
only_there at.KeyCurrent verb.Get operation e = subst (Stands at.KeyCurrent verb.Get) (some_same op.Current operation e) record { where_ = refl; under = refl; known = λ q. cc }
only_there at.KeyCurrent verb.Post operation e = cc
only_there at.KeyCurrent verb.Delete operation e = cc
only_there at.KeyCurrent verb.Other operation e = cc
only_there at.KeyVersions verb.Get operation e = subst (Stands at.KeyVersions verb.Get) (some_same op.Versions operation e) record { where_ = refl; under = refl; known = λ q. cc }
only_there at.KeyVersions verb.Post operation e = cc
only_there at.KeyVersions verb.Delete operation e = cc
only_there at.KeyVersions verb.Other operation e = cc
only_there at.KeyEek verb.Get operation e = subst (Stands at.KeyEek verb.Get) (some_same op.Generate operation e) record { where_ = refl; under = refl; known = λ q. cc }
only_there at.KeyEek verb.Post operation e = cc
only_there at.KeyEek verb.Delete operation e = cc
only_there at.KeyEek verb.Other operation e = cc
only_there at.KeyBatch verb.Get operation e = cc
only_there at.KeyBatch verb.Post operation e = subst (Stands at.KeyBatch verb.Post) (some_same op.Batch operation e) record { where_ = refl; under = refl; known = λ q. cc }
only_there at.KeyBatch verb.Delete operation e = cc
only_there at.KeyBatch verb.Other operation e = cc
only_there at.Version verb.Get operation e = subst (Stands at.Version verb.Get) (some_same op.Version operation e) record { where_ = refl; under = refl; known = λ q. cc }
only_there at.Version verb.Post operation e = cc
only_there at.Version verb.Delete operation e = cc
only_there at.Version verb.Other operation e = cc
only_there at.VersionEek verb.Get operation e = cc
only_there at.VersionEek verb.Post operation e = subst (Stands at.VersionEek verb.Post) (some_same op.Eek operation e) record { where_ = refl; under = refl; known = λ q. cc }
only_there at.VersionEek verb.Delete operation e = cc
only_there at.VersionEek verb.Other operation e = cc
only_there at.Names verb.Get operation e = subst (Stands at.Names verb.Get) (some_same op.Names operation e) record { where_ = refl; under = refl; known = λ q. cc }
only_there at.Names verb.Post operation e = cc
only_there at.Names verb.Delete operation e = cc
only_there at.Names verb.Other operation e = cc
only_there at.Metadatas verb.Get operation e = subst (Stands at.Metadatas verb.Get) (some_same op.Metadatas operation e) record { where_ = refl; under = refl; known = λ q. cc }
only_there at.Metadatas verb.Post operation e = cc
only_there at.Metadatas verb.Delete operation e = cc
only_there at.Metadatas verb.Other operation e = cc

-- each place has an operation
pub some_at : (place : Place) → (operation : Operation) × (place ≡ place_of operation)
some_at at.Keys = (op.Create, refl)
some_at at.Key = (op.Roll, refl)
some_at at.KeyInvalidate = (op.Invalidate, refl)
some_at at.KeyMetadata = (op.Metadata, refl)
some_at at.KeyCurrent = (op.Current, refl)
some_at at.KeyVersions = (op.Versions, refl)
some_at at.KeyEek = (op.Generate, refl)
some_at at.KeyBatch = (op.Batch, refl)
some_at at.Version = (op.Version, refl)
some_at at.VersionEek = (op.Eek, refl)
some_at at.Names = (op.Names, refl)
some_at at.Metadatas = (op.Metadatas, refl)
