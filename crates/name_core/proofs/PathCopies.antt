-- A path followed by the first names of another one.
use Rattle.std.proofs.Common.{◌≡◌, ℕ, ◌+◌, ◌<◌, ◌≤◌, true, List, [], ◌∷◌, ◌++◌, length, get_or, take, drop, take-append-drop, ap, sym, subst, ◌∙◌}
use Rattle.std.proofs.lemmas.List.{append-nil, append_assoc, take_more, take-take}
use Rattle.name_calls.specs.Paths.{is_relative}
use Rattle.name_calls.proofs.PathLemmas.{relative-front}

relative-part : (q r : List (List ℕ)) → is_relative (q ++ r) ≡ true → is_relative q ≡ true
relative-part q [] h = subst (λ (p : List (List ℕ)). is_relative p ≡ true) (append-nil q) h
relative-part q (c ∷ r) h = relative-front q c (relative-part (q ++ c ∷ []) r (subst (λ (p : List (List ℕ)). is_relative p ≡ true) (sym (append_assoc q (c ∷ []) r)) h))

-- if a path with the first n names of another one keeps the rule, so does it with fewer of them
pub relative-upto : (p below : List (List ℕ)) (k n : ℕ) → k ≤ n → is_relative (p ++ take n below) ≡ true → is_relative (p ++ take k below) ≡ true
relative-upto p below k n few h = relative-part (p ++ take k below) (drop k (take n below)) (subst (λ (q : List (List ℕ)). is_relative q ≡ true) (sym whole) h)
  where
    shorter : take k (take n below) ≡ take k below
    shorter = take-take k n below few

    whole : (p ++ take k below) ++ drop k (take n below) ≡ p ++ take n below
    whole =
        append_assoc p (take k below) (drop k (take n below))
        ∙ ap (λ (q : List (List ℕ)). p ++ q) (ap (λ (q : List (List ℕ)). q ++ drop k (take n below)) (sym shorter) ∙ take-append-drop k (take n below))

-- one name more
pub joined-more : (p below joined : List (List ℕ)) (k : ℕ) (name : List ℕ) → joined ≡ p ++ take k below → k < length below → name ≡ get_or below k [] → joined ++ name ∷ [] ≡ p ++ take (k + 1) below
joined-more p below joined k name so_far within is =
    (λ i. so_far i ++ is i ∷ []) ∙ append_assoc p (take k below) (get_or below k [] ∷ []) ∙ ap (λ (q : List (List ℕ)). p ++ q) (sym (take_more below k [] within))
