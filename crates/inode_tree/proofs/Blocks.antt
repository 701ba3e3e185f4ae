-- Paths in order about a path and those below it.
use Rattle.std.proofs.Common.{◌≡◌, ℕ, Bool, true, false, ◌&&◌, List, [], ◌∷◌, refl, sym, ap, ◌∙◌, subst, Ordering}
use Rattle.std.specs.declared.cmp.Ordering.TheVariants.{Less, Equal, Greater}
use Rattle.std.specs.Ordering.{nat_cmp, is_lt, ordering_then}
use Rattle.std.specs.Cmp.Lexicographic.{slice_cmp}
use Rattle.std.specs.Str.{bytes_eq}
use Rattle.std.proofs.lemmas.Slice.Eq.{bytes_eq-Decides}
use Rattle.std.proofs.lemmas.Cmp.{nat_list_cmp_total, tied_itself}
use Rattle.std.proofs.lemmas.Map.Lookups.{exact_bytes}
use Rattle.std.proofs.lemmas.Bool.{and_parts}
use Rattle.name_calls.specs.Paths.{is_before, is_prefix, path_cmp}

cmp-self : (x : List ℕ) → slice_cmp nat_cmp x x ≡ Equal
cmp-self x = tied_itself nat_list_cmp_total x

-- a path doesn't come before a prefix of it
pub prefix-not-before : (p x : List (List ℕ)) → is_prefix p x ≡ true → is_before x p ≡ false
prefix-not-before [] [] h = refl
prefix-not-before [] (y ∷ x) h = refl
prefix-not-before (a ∷ p) [] h = cc
prefix-not-before (a ∷ p) (b ∷ x) h =
    let parts = and_parts (bytes_eq a b) (is_prefix p x) h in
    let e : a ≡ b = (bytes_eq-Decides a b).0 parts.0 in
    let o : slice_cmp nat_cmp b a ≡ Equal = subst (λ (c : List ℕ). slice_cmp nat_cmp b c ≡ Equal) (sym e) (cmp-self b) in
    ap (λ (r : Ordering). is_lt (ordering_then r (path_cmp x p))) o ∙ prefix-not-before p x parts.1

-- a path between p and a path below p is below p
pub between : (p e x : List (List ℕ)) → is_before e p ≡ false → is_before e x ≡ true → is_prefix p x ≡ true → is_prefix p e ≡ true
between [] e x b c h = refl
between (a ∷ p) [] x b c h = cc
between (a ∷ p) (f ∷ e) [] b c h = cc
between (a ∷ p) (f ∷ e) (g ∷ x) b c h =
    let parts = and_parts (bytes_eq a g) (is_prefix p x) h in
    let same : a ≡ g = (bytes_eq-Decides a g).0 parts.0 in
    let c2 : is_lt (ordering_then (slice_cmp nat_cmp f a) (path_cmp e x)) ≡ true = subst (λ (k : List ℕ). is_lt (ordering_then (slice_cmp nat_cmp f k) (path_cmp e x)) ≡ true) (sym same) c in
    go (slice_cmp nat_cmp f a) refl b c2 (λ d. between p e x d) parts.1
  where
    go : (o : Ordering) → slice_cmp nat_cmp f a ≡ o → is_lt (ordering_then o (path_cmp e p)) ≡ false → is_lt (ordering_then o (path_cmp e x)) ≡ true
        → (is_before e p ≡ false → is_before e x ≡ true → is_prefix p x ≡ true → is_prefix p e ≡ true) → is_prefix p x ≡ true → (bytes_eq a f && is_prefix p e) ≡ true
    go Less eo d k ih h = cc
    go Equal eo d k ih h =
        let i : is_prefix p e ≡ true = ih d k h in
        let j : a ≡ f = sym (exact_bytes f a eo) in
        ap (λ (t : Bool). t && is_prefix p e) ((bytes_eq-Decides a f).1 j) ∙ i
    go Greater eo d k ih h = cc
