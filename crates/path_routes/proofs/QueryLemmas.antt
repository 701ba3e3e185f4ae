-- The values of a name in a prefix of a query.
use Rattle.std.proofs.Common.{◌≡◌, ℕ, List, [], ◌∷◌, ◌++◌, Bool, true, false, cond, ap, ◌∙◌, refl, map, sym, subst, take, get_or, length, ◌<◌, ◌≤◌, ◌+◌}
use Rattle.std.proofs.lemmas.List.{take_more, take_all}
use denote.Ref.{Bor}
use Rattle.std.specs.Str.{bytes_eq}
use Rattle.path_routes.specs.declared.query.Parameter.{Parameter}
use Rattle.path_routes.specs.declared.query.Given.{Given}
use Rattle.path_routes.specs.Queries.{IsGiven, parameter, values}

-- one more parameter, with the name
pub values-more : (name : List ℕ) (ps : List Parameter) (p : Parameter) → bytes_eq p.name name ≡ true → values name (ps ++ p ∷ []) ≡ values name ps ++ p.value ∷ []
values-more name [] p e = rw e refl
values-more name (q ∷ ps) p e = by (bytes_eq q.name name) (values-more name ps p e)
  where
    by : (v : Bool) → values name (ps ++ p ∷ []) ≡ values name ps ++ p.value ∷ [] → cond v (q.value ∷ values name (ps ++ p ∷ [])) (values name (ps ++ p ∷ [])) ≡ cond v (q.value ∷ values name ps) (values name ps) ++ p.value ∷ []
    by true ih = ap (λ vs. q.value ∷ vs) ih
    by false ih = ih

-- one more parameter, with another name
pub values-other : (name : List ℕ) (ps : List Parameter) (p : Parameter) → bytes_eq p.name name ≡ false → values name (ps ++ p ∷ []) ≡ values name ps
values-other name [] p e = rw e refl
values-other name (q ∷ ps) p e = by (bytes_eq q.name name) (values-other name ps p e)
  where
    by : (v : Bool) → values name (ps ++ p ∷ []) ≡ values name ps → cond v (q.value ∷ values name (ps ++ p ∷ [])) (values name (ps ++ p ∷ [])) ≡ cond v (q.value ∷ values name ps) (values name ps)
    by true ih = ap (λ vs. q.value ∷ vs) ih
    by false ih = ih

pub map-at : (pieces : List (Bor (List ℕ))) → map (λ piece. parameter piece.now) pieces ≡ map parameter (map (λ piece. piece.now) pieces)
map-at [] = refl
map-at (piece ∷ pieces) = ap (λ ps. parameter piece.now ∷ ps) (map-at pieces)

-- one more parameter with the name is one more value
pub given-more : (name : List ℕ) (ps : List Parameter) (p : Parameter) (n v : List ℕ) (found out : Given) → n ≡ p.name → bytes_eq n name ≡ true → v ≡ p.value
    → ((vs : List (List ℕ)) → IsGiven vs found → IsGiven (vs ++ v ∷ []) out) → IsGiven (values name ps) found → IsGiven (values name (ps ++ p ∷ [])) out
given-more name ps p n v found out e t w step is =
    let same : bytes_eq p.name name ≡ true = rw e at t in
    subst (λ (vs : List (List ℕ)). IsGiven vs out) (ap (λ x. values name ps ++ x ∷ []) w ∙ sym (values-more name ps p same)) (step (values name ps) is)

-- one more parameter with another name changes nothing
pub given-other : (name : List ℕ) (ps : List Parameter) (p : Parameter) (n : List ℕ) (found : Given) → n ≡ p.name → bytes_eq n name ≡ false
    → IsGiven (values name ps) found → IsGiven (values name (ps ++ p ∷ [])) found
given-other name ps p n found e t is =
    let other : bytes_eq p.name name ≡ false = rw e at t in
    subst (λ (vs : List (List ℕ)). IsGiven vs found) (sym (values-other name ps p other)) is

pub taken : (xs ps : List Parameter) (i : ℕ) (p : Parameter) → xs ≡ ps → i < length xs → p ≡ get_or xs i p → take i ps ++ p ∷ [] ≡ take (i + 1) ps
taken xs ps i p e l q = sym (take_more ps i p (subst (λ (zs : List Parameter). i < length zs) e l) ∙ ap (λ z. take i ps ++ z ∷ []) (sym (q ∙ ap (λ zs. get_or zs i p) e)))

pub all_taken : (xs ps : List Parameter) (i : ℕ) → xs ≡ ps → length xs ≤ i → take i ps ≡ ps
all_taken xs ps i e l = take_all i ps (subst (λ (zs : List Parameter). length zs ≤ i) e l)
