-- A prefix, by comparing as far as both go.
use Rattle.std.proofs.Common.{◌≡◌, ℕ, suc, Bool, true, false, ◌&&◌, List, [], ◌∷◌, length, refl, sym, ap, ◌∙◌, arith, Ordering}
use Rattle.std.specs.declared.cmp.Ordering.TheVariants.{Less, Equal, Greater}
use Rattle.std.specs.Prelude.{nat_le}
use Rattle.std.specs.Ordering.{nat_cmp, is_eq, ordering_then}
use Rattle.std.specs.Cmp.Lexicographic.{slice_cmp}
use Rattle.std.specs.Str.{bytes_eq}
use Rattle.std.proofs.lemmas.Slice.Eq.{bytes_eq-Decides}
use Rattle.std.proofs.lemmas.Map.Text.{is_eq-slice_cmp}
use Rattle.std.proofs.lemmas.Bool.Decides.{nat_tests}
use Rattle.name_calls.specs.Paths.{is_prefix}
use Rattle.inode_tree.specs.Arena.{cmp_front}

bytes-turned : (a b : List ℕ) → bytes_eq a b ≡ bytes_eq b a
bytes-turned a b = go (bytes_eq a b) (bytes_eq b a) refl refl
  where
    go : (s t : Bool) → bytes_eq a b ≡ s → bytes_eq b a ≡ t → s ≡ t
    go true true e f = refl
    go false false e f = refl
    go true false e f = let g : bytes_eq b a ≡ true = (bytes_eq-Decides b a).1 (sym ((bytes_eq-Decides a b).0 e)) in cc
    go false true e f = let g : bytes_eq a b ≡ true = (bytes_eq-Decides a b).1 (sym ((bytes_eq-Decides b a).0 f)) in cc

le-suc : (a b : ℕ) → nat_le (suc a) (suc b) ≡ nat_le a b
le-suc a b = grind (arith, nat_tests)

le-zero : (a : ℕ) → nat_le (suc a) 0 ≡ false
le-zero a = grind (arith, nat_tests)

zero-le : (a : ℕ) → nat_le 0 a ≡ true
zero-le a = grind (arith, nat_tests)

pub prefix-front : (p q : List (List ℕ)) → is_prefix p q ≡ (is_eq (cmp_front q p) && nat_le (length p) (length q))
prefix-front [] [] = refl
prefix-front [] (y ∷ q) = sym (zero-le (suc (length q)))
prefix-front (x ∷ p) [] = sym (le-zero (length p))
prefix-front (x ∷ p) (y ∷ q) =
    ap (λ (b : Bool). b && is_prefix p q) (bytes-turned x y ∙ sym (is_eq-slice_cmp y x))
    ∙ ap (λ (b : Bool). is_eq (slice_cmp nat_cmp y x) && b) (prefix-front p q ∙ ap (λ (b : Bool). is_eq (cmp_front q p) && b) (sym (le-suc (length p) (length q))))
    ∙ go (slice_cmp nat_cmp y x) (is_eq (cmp_front q p)) (nat_le (suc (length p)) (suc (length q))) refl
  where
    go : (o : Ordering) (b c : Bool) → is_eq (cmp_front q p) ≡ b → (is_eq o && (b && c)) ≡ (is_eq (ordering_then o (cmp_front q p)) && c)
    go Less b c e = refl
    go Equal b c e = ap (λ (t : Bool). t && c) (sym e)
    go Greater b c e = refl
