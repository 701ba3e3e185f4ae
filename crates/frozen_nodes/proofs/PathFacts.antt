-- Paths of rows in path order: names, prefixes and what comes before what.
use Rattle.std.proofs.Common.{◌≡◌, ℕ, ◌+◌, ◌<◌, ◌≤◌, zero, suc, Bool, true, ◌&&◌, List, [], ◌∷◌, ◌++◌, length, map, drop, refl, sym, ◌∙◌, ap, subst, arith, Ordering}
use Rattle.std.specs.Ordering.{is_lt, nat_cmp, ordering_then}
use Rattle.std.specs.List.{list_all}
use Rattle.std.specs.Cmp.Lexicographic.{slice_cmp}
use Rattle.std.specs.Str.{bytes_eq}
use Rattle.std.specs.declared.cmp.Ordering.TheVariants.{Less, Equal, Greater}
use Rattle.std.proofs.lemmas.Cmp.{nat_list_cmp_total, tied_itself}
use Rattle.std.proofs.lemmas.Slice.Eq.{bytes_eq-Decides}
use Rattle.std.proofs.lemmas.Bool.{and_parts}
use Rattle.name_calls.specs.Paths.{is_before, is_component, is_prefix, is_relative, is_short, last_name, parent, path_cmp}
use Rattle.inode_tree.proofs.PathBytes.{name-short}
use Rattle.inode_tree.specs.Below.{seen_from}
use Rattle.inode_tree.specs.Rows.{Entry}
use Rattle.frozen_nodes.specs.Copies.{AllAtOrBelow}
use Rattle.frozen_nodes.specs.Forest.{under}

-- a path is its parent's with one more name
pub parent-last : (p : List (List ℕ)) → 0 < length p → p ≡ parent p ++ last_name p ∷ []
parent-last [] lt = absurd (omega arith)
parent-last (x ∷ []) lt = refl
parent-last (x ∷ y ∷ p) lt = λ i. x ∷ parent-last (y ∷ p) (omega arith) i

pub last-ruled : (p : List (List ℕ)) → is_relative p ≡ true → 0 < length p → is_component (last_name p) ≡ true
last-ruled p h lt = go p (and_parts (list_all is_component p) (is_short p) h).0 lt
  where
    go : (q : List (List ℕ)) → list_all is_component q ≡ true → 0 < length q → is_component (last_name q) ≡ true
    go [] h lt = absurd (omega arith)
    go (x ∷ []) h lt = (and_parts (is_component x) true h).0
    go (x ∷ y ∷ q) h lt = go (y ∷ q) (and_parts (is_component x) (list_all is_component (y ∷ q)) h).1 (omega arith)

pub last-short : (p : List (List ℕ)) → is_relative p ≡ true → length (last_name p) ≤ 255
last-short [] h = omega arith
last-short (x ∷ p) h =
    let lt = name-short (parent (x ∷ p)) (last_name (x ∷ p)) (subst (λ (q : List (List ℕ)). is_relative q ≡ true) (parent-last (x ∷ p) (omega arith)) h) in omega arith

pub prefix-trans : (p q r : List (List ℕ)) → is_prefix p q ≡ true → is_prefix q r ≡ true → is_prefix p r ≡ true
prefix-trans [] q r h k = refl
prefix-trans (x ∷ p) [] r h k = cc
prefix-trans (x ∷ p) (y ∷ q) [] h k = cc
prefix-trans (x ∷ p) (y ∷ q) (z ∷ r) h k =
    let v = and_parts (bytes_eq x y) (is_prefix p q) h in
    let w = and_parts (bytes_eq y z) (is_prefix q r) k in
    let same : x ≡ z = (bytes_eq-Decides x y).0 v.0 ∙ (bytes_eq-Decides y z).0 w.0 in
    ap (λ (t : Bool). t && is_prefix p r) ((bytes_eq-Decides x z).1 same) ∙ prefix-trans p q r v.1 w.1

pub all-above : (p q : List (List ℕ)) (es : List Entry) → is_prefix p q ≡ true → AllAtOrBelow q es → AllAtOrBelow p es
all-above p q [] h a = tt
all-above p q (e ∷ es) h a = (prefix-trans p q e.path h a.0, all-above p q es h a.1)

pub all-joined : (p : List (List ℕ)) (es fs : List Entry) → AllAtOrBelow p es → AllAtOrBelow p fs → AllAtOrBelow p (es ++ fs)
all-joined p [] fs a b = b
all-joined p (e ∷ es) fs a b = (a.0, all-joined p es fs a.1 b)

same_bytes : (x : List ℕ) → bytes_eq x x ≡ true
same_bytes x = (bytes_eq-Decides x x).1 refl

pub prefix-more : (p : List (List ℕ)) (x : List ℕ) → is_prefix p (p ++ x ∷ []) ≡ true
prefix-more [] x = refl
prefix-more (y ∷ p) x = ap (λ (t : Bool). t && is_prefix p (p ++ x ∷ [])) (same_bytes y) ∙ prefix-more p x

-- a path below p/x, seen from p
pub seen-name : (p : List (List ℕ)) (x : List ℕ) (q : List (List ℕ)) (m : ℕ) → m ≡ length p + 1 → is_prefix (p ++ x ∷ []) q ≡ true → x ∷ drop m q ≡ drop (length p) q
seen-name p x q zero e h = absurd (omega arith)
seen-name [] x [] (suc m) e h = cc
seen-name [] x (y ∷ q) (suc m) e h =
    let zero_is : m ≡ 0 = omega arith in
    let w = and_parts (bytes_eq x y) true h in
    λ i. (bytes_eq-Decides x y).0 w.0 i ∷ drop (zero_is i) q
seen-name (z ∷ p) x [] (suc m) e h = cc
seen-name (z ∷ p) x (y ∷ q) (suc m) e h = seen-name p x q m (omega arith) (and_parts (bytes_eq z y) (is_prefix (p ++ x ∷ []) q) h).1

pub seen-under : (p : List (List ℕ)) (x : List ℕ) (m : ℕ) (es : List Entry) → m ≡ length p + 1 → AllAtOrBelow (p ++ x ∷ []) es → map (under x) (map (seen_from m) es) ≡ map (seen_from (length p)) es
seen-under p x m [] e a = refl
seen-under p x m (f ∷ es) e a = λ i. record { path = seen-name p x f.path m e a.0 i; row = f.row } ∷ seen-under p x m es e a.1 i

pub drop-all : (p : List (List ℕ)) → drop (length p) p ≡ []
drop-all [] = refl
drop-all (x ∷ p) = drop-all p

-- of two entries of a directory, the one with the smaller name comes first
pub snoc-before : (p : List (List ℕ)) (x y : List ℕ) → is_before (p ++ x ∷ []) (p ++ y ∷ []) ≡ true → is_lt (slice_cmp nat_cmp x y) ≡ true
snoc-before [] x y h = go (slice_cmp nat_cmp x y) h
  where
    go : (o : Ordering) → is_lt (ordering_then o Equal) ≡ true → is_lt o ≡ true
    go Less h = refl
    go Equal h = cc
    go Greater h = cc
snoc-before (z ∷ p) x y h = snoc-before p x y (sym (ap (λ (o : Ordering). is_lt (ordering_then o (path_cmp (p ++ x ∷ []) (p ++ y ∷ [])))) (tied_itself nat_list_cmp_total z)) ∙ h)
