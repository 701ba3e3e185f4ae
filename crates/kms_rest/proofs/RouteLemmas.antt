-- The operation that a method and a path name.
use Rattle.std.proofs.Common.{◌≡◌, ◌≢◌, ◌<◌, ℕ, List, codes, Option, Some, None, Bool, true, false, cond, get_or, refl, sym, ap, ◌∙◌, subst, nat_eq}
use Rattle.std.specs.Cmp.Lexicographic.{pointwise}
use Rattle.std.proofs.lemmas.Slice.Eq.{bytes_eq-Decides}
use Rattle.matchit.specs.Seek.{first}
use Rattle.path_routes.specs.Shapes.{FitsShape, Shape}
use Rattle.kms_rest.specs.declared.operation.Operation.{Operation}
use Rattle.kms_rest.specs.declared.place.Place.{Place}
use Rattle.kms_rest.specs.declared.place.Verb.TheVariants as verb
use Rattle.kms_rest.specs.Operations.{HasBadMethod, HasNoRoute, HasPath, Routes, method_of}
use Rattle.kms_rest.specs.Places.{IsAt, operation_at, verb_of}
use Rattle.kms_rest.specs.Rows.{table}
use Rattle.kms_rest.proofs.PlaceLemmas.{only_there, place_of, shape_at, shape_of_place, some_at, some_same, stands_there, text_of, to_segments, to_text}
use Rattle.kms_rest.proofs.TableLemmas.{complete}
use Rattle.kms_rest.proofs.UniqueLemmas.{unique}

-- each number is below 256
abbrev pub AreBytes : List ℕ → Type 0
AreBytes path = (i : ℕ) → get_or path i 0 < 256

segments_there : (path : List ℕ) (o : Operation) (k : List ℕ) → HasPath path o k → FitsShape path (shape_at (place_of o)) k
segments_there path o k f = subst (λ (s : Shape). FitsShape path s k) (shape_of_place o) f

from_place : (path : List ℕ) (p : Place) (o : Operation) (k : List ℕ) → p ≡ place_of o → IsAt path p k → HasPath path o k
from_place path p o k e f =
    subst (λ (s : Shape). FitsShape path s k) (sym (shape_of_place o)) (subst (λ (q : Place). FitsShape path (shape_at q) k) e (to_segments path p k f))

pub no_route : (path : List ℕ) → AreBytes path → first table path ≡ None → HasNoRoute path
no_route path h none = λ o k f.
    let there = complete path h (place_of o) k (to_text path (place_of o) k (segments_there path o k f)) in
    cc

none_some : (r : Option Operation) (o : Operation) → r ≡ None → r ≡ Some o → ⊥
none_some r o e f = cc

not_there : (method path : List ℕ) → AreBytes path → (p : Place) (k : List ℕ) → IsAt path p k → operation_at p (verb_of method) ≡ None
    → (o : Operation) (j : List ℕ) → ¬ Routes method path o j
not_there method path h p k f none o j r =
    let u = unique path h p (place_of o) k j (to_segments path p k f) (segments_there path o j r.fits) in
    let there : operation_at p (verb_of method) ≡ Some o = ap (λ q. operation_at q (verb_of method)) u.0 ∙ ap (λ m. operation_at (place_of o) (verb_of m)) r.under ∙ stands_there o in
    none_some (operation_at p (verb_of method)) o none there

pub bad_method : (method path : List ℕ) → AreBytes path → (p : Place) (k : List ℕ) → IsAt path p k → operation_at p (verb_of method) ≡ None → HasBadMethod method path
bad_method method path h p k f none = record {
  operation = (some_at p).0;
  part = k;
  fits = from_place path p (some_at p).0 k (some_at p).1 f;
  other = not_there method path h p k f none;
}

same_bytes : (xs ys : List ℕ) → pointwise nat_eq xs ys ≡ true → xs ≡ ys
same_bytes xs ys e = (bytes_eq-Decides xs ys).0 e

verb_text : (m : List ℕ) → verb_of m ≢ verb.Other → m ≡ text_of (verb_of m)
verb_text m n = go (pointwise nat_eq m (codes "GET")) (pointwise nat_eq m (codes "POST")) (pointwise nat_eq m (codes "DELETE")) (same_bytes m (codes "GET")) (same_bytes m (codes "POST")) (same_bytes m (codes "DELETE")) n
  where
    go : (a b d : Bool) → (a ≡ true → m ≡ codes "GET") → (b ≡ true → m ≡ codes "POST") → (d ≡ true → m ≡ codes "DELETE")
        → cond a verb.Get (cond b verb.Post (cond d verb.Delete verb.Other)) ≢ verb.Other
        → m ≡ text_of (cond a verb.Get (cond b verb.Post (cond d verb.Delete verb.Other)))
    go true b d f g h n = f refl
    go false true d f g h n = g refl
    go false false true f g h n = h refl
    go false false false f g h n = absurd (n refl)

pub routes_there : (method path : List ℕ) (p : Place) (k : List ℕ) (o : Operation) → IsAt path p k → operation_at p (verb_of method) ≡ Some o → Routes method path o k
routes_there method path p k o f e =
    let s = only_there p (verb_of method) o e in
    record { fits = from_place path p o k s.where_ f; under = verb_text method s.known ∙ s.under }

-- a method and a path name one operation, with one part
pub same_route : (method path : List ℕ) → AreBytes path → (o q : Operation) (k j : List ℕ) → Routes method path o k → Routes method path q j → (o ≡ q) × (k ≡ j)
same_route method path h o q k j r s =
    let u = unique path h (place_of o) (place_of q) k j (segments_there path o k r.fits) (segments_there path q j s.fits) in
    let there : Some o ≡ Some q =
    sym (stands_there o) ∙ ap (λ p. operation_at p (verb_of (method_of o))) u.0 ∙ ap (λ m. operation_at (place_of q) (verb_of m)) (sym r.under ∙ s.under) ∙ stands_there q in
    (some_same o q there, u.1)
