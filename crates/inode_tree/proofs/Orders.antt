-- How paths compare.
use Rattle.std.proofs.Common.{◌≡◌, ℕ, ◌<◌, ◌≤◌, zero, suc, List, [], ◌∷◌, ◌++◌, length, get_or, refl, sym, ap, ◌∙◌, arith, Ordering}
use Rattle.std.specs.declared.cmp.Ordering.TheVariants.{Less, Equal, Greater}
use Rattle.std.specs.Ordering.{nat_cmp, ordering_then}
use Rattle.std.specs.Cmp.Lexicographic.{slice_cmp}
use Rattle.std.proofs.lemmas.Bool.Decides.{nat_tests}
use Rattle.inode_tree.specs.Arena.{cmp_front, name_cmp}
use Rattle.name_calls.specs.Paths.{path_cmp}

pub then-equal : (o : Ordering) → ordering_then o Equal ≡ o
then-equal Less = refl
then-equal Equal = refl
then-equal Greater = refl

pub then-then : (o p q : Ordering) → ordering_then (ordering_then o p) q ≡ ordering_then o (ordering_then p q)
then-then Less p q = refl
then-then Equal p q = refl
then-then Greater p q = refl

pub name-in : (x : List ℕ) (p : List (List ℕ)) (k : ℕ) → k < length p → name_cmp x p k ≡ slice_cmp nat_cmp x (get_or p k [])
name-in x [] k h = absurd (omega arith)
name-in x (y ∷ p) zero h = refl
name-in x (y ∷ p) (suc k) h = name-in x p k (omega arith)

pub name-past : (x : List ℕ) (p : List (List ℕ)) (k : ℕ) → length p ≤ k → name_cmp x p k ≡ Equal
name-past x [] k h = refl
name-past x (y ∷ p) zero h = absurd (omega arith)
name-past x (y ∷ p) (suc k) h = name-past x p k (omega arith)

pub front-snoc : (q : List (List ℕ)) (x : List ℕ) (p : List (List ℕ)) → cmp_front (q ++ x ∷ []) p ≡ ordering_then (cmp_front q p) (name_cmp x p (length q))
front-snoc [] x [] = refl
front-snoc [] x (y ∷ p) = then-equal (slice_cmp nat_cmp x y)
front-snoc (z ∷ q) x [] = refl
front-snoc (z ∷ q) x (y ∷ p) = ap (ordering_then (slice_cmp nat_cmp z y)) (front-snoc q x p) ∙ sym (then-then (slice_cmp nat_cmp z y) (cmp_front q p) (name_cmp x p (length q)))

cmp-suc : (a b : ℕ) → nat_cmp (suc a) (suc b) ≡ nat_cmp a b
cmp-suc a b = grind (arith, nat_tests)

cmp-less : (b : ℕ) → nat_cmp 0 (suc b) ≡ Less
cmp-less b = grind (arith, nat_tests)

cmp-more : (a : ℕ) → nat_cmp (suc a) 0 ≡ Greater
cmp-more a = grind (arith, nat_tests)

pub path-cmp-is : (q p : List (List ℕ)) → path_cmp q p ≡ ordering_then (cmp_front q p) (nat_cmp (length q) (length p))
path-cmp-is [] [] = refl
path-cmp-is [] (y ∷ p) = sym (cmp-less (length p))
path-cmp-is (x ∷ q) [] = sym (cmp-more (length q))
path-cmp-is (x ∷ q) (y ∷ p) =
    ap (ordering_then (slice_cmp nat_cmp x y)) (path-cmp-is q p ∙ ap (ordering_then (cmp_front q p)) (sym (cmp-suc (length q) (length p))))
    ∙ sym (then-then (slice_cmp nat_cmp x y) (cmp_front q p) (nat_cmp (suc (length q)) (suc (length p))))
