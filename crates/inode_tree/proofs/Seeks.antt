-- The row at a path.
use Rattle.std.proofs.Common.{◌≡◌, ℕ, ◌<◌, ◌≤◌, zero, suc, Bool, true, false, cond, ◌&&◌, List, [], ◌∷◌, length, get_or, Option, Some, None, refl, sym, ap, ◌∙◌, subst, arith, Ordering}
use Rattle.std.specs.declared.cmp.Ordering.TheVariants.{Less, Equal, Greater}
use Rattle.std.specs.Ordering.{nat_cmp, is_lt, is_eq, ordering_then, ordering_reverse}
use Rattle.std.specs.Option.{option_map}
use Rattle.std.specs.Cmp.Lexicographic.{slice_cmp}
use Rattle.std.specs.Str.{bytes_eq}
use Rattle.std.proofs.lemmas.Slice.Eq.{bytes_eq-Decides}
use Rattle.std.proofs.lemmas.Map.Text.{is_eq-slice_cmp}
use Rattle.std.proofs.lemmas.Cmp.{tied_itself}
use Rattle.std.proofs.lemmas.Bool.{and_parts}
use Rattle.inode_tree.specs.declared.rows.Node.{Node}
use Rattle.name_calls.specs.Paths.{path_cmp, is_before, same_path}
use Rattle.inode_tree.specs.Rows.{row_at}
use Rattle.inode_tree.specs.Arena.{AllAfter, IsRising, rank, rows_of, node_at, path_of, number_of}
use Rattle.inode_tree.proofs.Ranks.{path-total}

pub same-is : (p q : List (List ℕ)) → same_path p q ≡ true → p ≡ q
same-is [] [] h = refl
same-is [] (y ∷ q) h = cc
same-is (x ∷ p) [] h = cc
same-is (x ∷ p) (y ∷ q) h =
    let parts = and_parts (bytes_eq x y) (same_path p q) h in
    let e : x ≡ y = (bytes_eq-Decides x y).0 parts.0 in
    let f : p ≡ q = same-is p q parts.1 in cc

pub same-cmp : (p q : List (List ℕ)) → same_path p q ≡ is_eq (path_cmp p q)
same-cmp [] [] = refl
same-cmp [] (y ∷ q) = refl
same-cmp (x ∷ p) [] = refl
same-cmp (x ∷ p) (y ∷ q) = ap (λ (b : Bool). b && same_path p q) (sym (is_eq-slice_cmp x y)) ∙ go (slice_cmp nat_cmp x y) (same-cmp p q)
  where
    go : (o : Ordering) → same_path p q ≡ is_eq (path_cmp p q) → (is_eq o && same_path p q) ≡ is_eq (ordering_then o (path_cmp p q))
    go Less h = refl
    go Equal h = h
    go Greater h = refl

pub same-itself : (p : List (List ℕ)) → same_path p p ≡ true
same-itself p = same-cmp p p ∙ ap is_eq (tied_itself path-total p)

pub not-before-itself : (p : List (List ℕ)) → is_before p p ≡ false
not-before-itself p = ap is_lt (tied_itself path-total p)

-- of two paths that differ the one comes before the other
pub other-before : (p q : List (List ℕ)) → same_path p q ≡ false → is_before p q ≡ false → is_before q p ≡ true
other-before p q s b = go (path_cmp p q) refl (sym (same-cmp p q) ∙ s) b
  where
    go : (o : Ordering) → path_cmp p q ≡ o → is_eq o ≡ false → is_lt o ≡ false → is_before q p ≡ true
    go Less e f g = cc
    go Equal e f g = cc
    go Greater e f g = ap is_lt (path-total.antisymm q p ∙ ap ordering_reverse e)

pub before-not-same : (p q : List (List ℕ)) → is_before p q ≡ true → same_path p q ≡ false
before-not-same p q h = go (path_cmp p q) h (same-cmp p q)
  where
    go : (o : Ordering) → is_lt o ≡ true → same_path p q ≡ is_eq o → same_path p q ≡ false
    go Less e f = f
    go Equal e f = cc
    go Greater e f = f

-- if a path doesn't come before p, no row after it is at p
pub none-after : (ns : List Node) (order : List ℕ) (q p : List (List ℕ)) → AllAfter q (rows_of ns order) → is_before q p ≡ false → number_of ns order p ≡ None
none-after ns [] q p a b = refl
none-after ns (n ∷ order) q p a b = go (same_path (path_of ns n) p) refl (none-after ns order q p a.1 b)
  where
    go : (t : Bool) → same_path (path_of ns n) p ≡ t → number_of ns order p ≡ None → cond t (Some n) (number_of ns order p) ≡ None
    go true e h =
        let f : is_before q p ≡ true = ap (is_before q) (sym (same-is (path_of ns n) p e)) ∙ a.0 in cc
    go false e h = h

-- a search by rank
abbrev pub pick : List Node → List ℕ → ℕ → List (List ℕ) → Option ℕ
pick ns [] k p = None
pick ns (n ∷ order) zero p = cond (same_path (path_of ns n) p) (Some n) None
pick ns (n ∷ order) (suc k) p = pick ns order k p

pub number-pick : (ns : List Node) (order : List ℕ) (p : List (List ℕ)) → IsRising (rows_of ns order) → number_of ns order p ≡ pick ns order (rank (rows_of ns order) p) p
number-pick ns [] p r = refl
number-pick ns (n ∷ order) p r = go (is_before (path_of ns n) p) refl (number-pick ns order p r.1)
  where
    go : (t : Bool) → is_before (path_of ns n) p ≡ t → number_of ns order p ≡ pick ns order (rank (rows_of ns order) p) p
        → number_of ns (n ∷ order) p ≡ pick ns (n ∷ order) (cond t (suc (rank (rows_of ns order) p)) 0) p
    go true e h = ap (λ (b : Bool). cond b (Some n) (number_of ns order p)) (before-not-same (path_of ns n) p e) ∙ h
    go false e h = ap (λ (o : Option ℕ). cond (same_path (path_of ns n) p) (Some n) o) (none-after ns order (path_of ns n) p r.0 e)

pub pick-past : (ns : List Node) (order : List ℕ) (k : ℕ) (p : List (List ℕ)) → length order ≤ k → pick ns order k p ≡ None
pick-past ns [] k p h = refl
pick-past ns (n ∷ order) zero p h = absurd (omega arith)
pick-past ns (n ∷ order) (suc k) p h = pick-past ns order k p (omega arith)

pub pick-at : (ns : List Node) (order : List ℕ) (k : ℕ) (p : List (List ℕ)) → k < length order → pick ns order k p ≡ cond (same_path (path_of ns (get_or order k 0)) p) (Some (get_or order k 0)) None
pick-at ns [] k p h = absurd (omega arith)
pick-at ns (n ∷ order) zero p h = refl
pick-at ns (n ∷ order) (suc k) p h = pick-at ns order k p (omega arith)

-- a node that is found is live and at that path
pub number-live : (ns : List Node) (order : List ℕ) (p : List (List ℕ)) (n : ℕ) → number_of ns order p ≡ Some n → (k : ℕ) × (k < length order) × (get_or order k 0 ≡ n) × (path_of ns n ≡ p)
number-live ns [] p n h = cc
number-live ns (m ∷ order) p n h = go (same_path (path_of ns m) p) refl h (number-live ns order p n)
  where
    go : (t : Bool) → same_path (path_of ns m) p ≡ t → cond t (Some m) (number_of ns order p) ≡ Some n → (number_of ns order p ≡ Some n → (k : ℕ) × (k < length order) × (get_or order k 0 ≡ n) × (path_of ns n ≡ p)) → (k : ℕ) × (k < suc (length order)) × (get_or (m ∷ order) k 0 ≡ n) × (path_of ns n ≡ p)
    go true e f ih = let g : m ≡ n = cc in (0, omega arith, g, subst (λ (k : ℕ). path_of ns k ≡ p) g (same-is (path_of ns m) p e))
    go false e f ih = let w = ih f in (suc w.0, omega (arith, w.1), w.2, w.3)

pub row-number : (ns : List Node) (order : List ℕ) (p : List (List ℕ)) → row_at (rows_of ns order) p ≡ option_map (λ (n : ℕ). (node_at ns n).row) (number_of ns order p)
row-number ns [] p = refl
row-number ns (n ∷ order) p = go (same_path (path_of ns n) p) (row-number ns order p)
  where
    go : (t : Bool) → row_at (rows_of ns order) p ≡ option_map (λ (n : ℕ). (node_at ns n).row) (number_of ns order p)
        → cond t (Some (node_at ns n).row) (row_at (rows_of ns order) p) ≡ option_map (λ (n : ℕ). (node_at ns n).row) (cond t (Some n) (number_of ns order p))
    go true h = refl
    go false h = h
