-- A path belongs to one place, with one part; so method and path name one operation.
use Rattle.std.proofs.Common.{◌≡◌, ℕ, List, ◌++◌, ◌<◌, get_or, refl, sym, ap, ◌∙◌, subst}
use Rattle.std.proofs.lemmas.List.{append_cancel_left, append_cancel_right}
use Rattle.path_routes.specs.Shapes.{FitsShape}
use Rattle.kms_rest.specs.Places.{IsAt, after, before}
use Rattle.kms_rest.specs.Rows.{row_of}
use Rattle.kms_rest.proofs.PlaceLemmas.{shape_at, to_text}
use Rattle.kms_rest.proofs.TableLemmas.{complete}
use Rattle.kms_rest.specs.declared.place.Place.{Place}
use Rattle.kms_rest.specs.declared.place.Place.TheVariants as at

row-value : (p : Place) → (row_of p).1.value ≡ p
row-value at.Keys = refl
row-value at.Key = refl
row-value at.KeyInvalidate = refl
row-value at.KeyMetadata = refl
row-value at.KeyCurrent = refl
row-value at.KeyVersions = refl
row-value at.KeyEek = refl
row-value at.KeyBatch = refl
row-value at.Version = refl
row-value at.VersionEek = refl
row-value at.Names = refl
row-value at.Metadatas = refl

same-place : (path : List ℕ) → ((i : ℕ) → get_or path i 0 < 256) → (p q : Place) (k j : List ℕ) → IsAt path p k → IsAt path q j → p ≡ q
same-place path h p q k j f g =
    let a = complete path h p k f in
    let b = complete path h q j g in
    let e : (row_of p).1 ≡ (row_of q).1 = cc in
    sym (row-value p) ∙ (ap (λ r. r.value) e ∙ row-value q)

same-part : (path : List ℕ) (p : Place) (k j : List ℕ) → IsAt path p k → IsAt path p j → k ≡ j
same-part path p k j f g = append_cancel_right k j (after p) (append_cancel_left (before p) (k ++ after p) (j ++ after p) (sym f.0 ∙ g.0))

pub unique : (path : List ℕ) → ((i : ℕ) → get_or path i 0 < 256) → (p q : Place) (k j : List ℕ) → FitsShape path (shape_at p) k → FitsShape path (shape_at q) j → (p ≡ q) × (k ≡ j)
unique path h p q k j f g =
    let a = to_text path p k f in
    let b = to_text path q j g in
    let e = same-place path h p q k j a b in
    (e, same-part path q k j (subst (λ z. IsAt path z k) e a) b)
