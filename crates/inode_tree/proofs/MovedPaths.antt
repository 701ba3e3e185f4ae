-- Paths that are moved from below p to below q.
use Rattle.std.proofs.Common.{◌≡◌, ℕ, Bool, true, false, cond, ◌&&◌, List, [], ◌∷◌, ◌++◌, length, drop, refl, sym, ap, ◌∙◌, Ordering, append_assoc}
use Rattle.std.specs.declared.cmp.Ordering.TheVariants.{Less, Equal, Greater}
use Rattle.std.specs.Ordering.{is_lt, nat_cmp, ordering_reverse, ordering_then}
use Rattle.std.specs.Cmp.Lexicographic.{slice_cmp}
use Rattle.std.specs.Str.{bytes_eq}
use Rattle.std.proofs.lemmas.Slice.Eq.{bytes_eq-Decides}
use Rattle.std.proofs.lemmas.Cmp.{nat_list_cmp_total, tied_itself}
use Rattle.std.proofs.lemmas.List.{append-nil, drop_at}
use Rattle.std.proofs.lemmas.Map.Lookups.{exact_bytes}
use Rattle.std.proofs.lemmas.Bool.{and_parts}
use Rattle.name_calls.specs.Paths.{is_before, is_prefix, path_cmp, same_path}
use Rattle.inode_tree.specs.Moves.{moved_path}
use Rattle.inode_tree.proofs.Seeks.{same-is}

cmp-self : (x : List ℕ) → slice_cmp nat_cmp x x ≡ Equal
cmp-self x = tied_itself nat_list_cmp_total x

pub bytes-self : (x : List ℕ) → bytes_eq x x ≡ true
bytes-self x = (bytes_eq-Decides x x).1 refl

pub prefix-append : (p x : List (List ℕ)) → is_prefix p (p ++ x) ≡ true
prefix-append [] x = refl
prefix-append (a ∷ p) x = ap (λ (b : Bool). b && is_prefix p (p ++ x)) (bytes-self a) ∙ prefix-append p x

pub prefix-split : (p r : List (List ℕ)) → is_prefix p r ≡ true → r ≡ p ++ drop (length p) r
prefix-split [] r h = refl
prefix-split (a ∷ p) [] h = cc
prefix-split (a ∷ p) (b ∷ r) h =
    let parts = and_parts (bytes_eq a b) (is_prefix p r) h in
    let e : a ≡ b = (bytes_eq-Decides a b).0 parts.0 in
    ap (λ (s : List (List ℕ)). b ∷ s) (prefix-split p r parts.1) ∙ ap (λ (c : List ℕ). c ∷ (p ++ drop (length p) r)) (sym e)

-- what is below a path is also below the paths above it
pub prefix-trans : (p q r : List (List ℕ)) → is_prefix p q ≡ true → is_prefix q r ≡ true → is_prefix p r ≡ true
prefix-trans [] q r h k = refl
prefix-trans (a ∷ p) [] r h k = cc
prefix-trans (a ∷ p) (b ∷ q) [] h k = cc
prefix-trans (a ∷ p) (b ∷ q) (d ∷ r) h k =
    let first = and_parts (bytes_eq a b) (is_prefix p q) h in
    let second = and_parts (bytes_eq b d) (is_prefix q r) k in
    let e : b ≡ d = (bytes_eq-Decides b d).0 second.0 in
    ap (λ (t : Bool). t && is_prefix p r) (ap (bytes_eq a) (sym e) ∙ first.0) ∙ prefix-trans p q r first.1 second.1

pub same-append : (q x y : List (List ℕ)) → same_path (q ++ x) (q ++ y) ≡ same_path x y
same-append [] x y = refl
same-append (a ∷ q) x y = ap (λ (b : Bool). b && same_path (q ++ x) (q ++ y)) (bytes-self a) ∙ same-append q x y

pub before-append : (q x y : List (List ℕ)) → is_before (q ++ x) (q ++ y) ≡ is_before x y
before-append [] x y = refl
before-append (a ∷ q) x y = ap (λ (o : Ordering). is_lt (ordering_then o (path_cmp (q ++ x) (q ++ y)))) (cmp-self a) ∙ before-append q x y

-- a path before q is before all that is below q
pub before-more : (r q x : List (List ℕ)) → is_before r q ≡ true → is_before r (q ++ x) ≡ true
before-more [] [] x h = cc
before-more [] (b ∷ q) x h = refl
before-more (a ∷ r) [] x h = cc
before-more (a ∷ r) (b ∷ q) x h = go (slice_cmp nat_cmp a b) h (before-more r q x)
  where
    go : (o : Ordering) → is_lt (ordering_then o (path_cmp r q)) ≡ true → (is_before r q ≡ true → is_before r (q ++ x) ≡ true) → is_lt (ordering_then o (path_cmp r (q ++ x))) ≡ true
    go Less k ih = refl
    go Equal k ih = ih k
    go Greater k ih = cc

-- a path after q and not below it is after all that is below q
pub after-more : (q r x : List (List ℕ)) → is_before r q ≡ false → is_prefix q r ≡ false → is_before (q ++ x) r ≡ true
after-more [] r x h k = cc
after-more (b ∷ q) [] x h k = cc
after-more (b ∷ q) (a ∷ r) x h k = go (slice_cmp nat_cmp a b) refl h (after-more q r x)
  where
    turned : (o : Ordering) → slice_cmp nat_cmp a b ≡ o → slice_cmp nat_cmp b a ≡ ordering_reverse o
    turned o e = nat_list_cmp_total.antisymm b a ∙ ap ordering_reverse e

    go : (o : Ordering) → slice_cmp nat_cmp a b ≡ o → is_lt (ordering_then o (path_cmp r q)) ≡ false → (is_before r q ≡ false → is_prefix q r ≡ false → is_before (q ++ x) r ≡ true) → is_before (b ∷ (q ++ x)) (a ∷ r) ≡ true
    go Less e f ih = cc
    go Equal e f ih =
        let same : b ≡ a = sym (exact_bytes a b e) in
        let off : is_prefix q r ≡ false = sym (ap (λ (t : Bool). t && is_prefix q r) ((bytes_eq-Decides b a).1 same)) ∙ k in
        ap (λ (o : Ordering). is_lt (ordering_then o (path_cmp (q ++ x) r))) (turned Equal e) ∙ ih f off
    go Greater e f ih = ap (λ (o : Ordering). is_lt (ordering_then o (path_cmp (q ++ x) r))) (turned Greater e)

-- a path that is not below another is not one of those below it
pub not-below : (q r x : List (List ℕ)) → is_prefix q r ≡ false → same_path r (q ++ x) ≡ false
not-below q r x h = go (same_path r (q ++ x)) refl
  where
    go : (t : Bool) → same_path r (q ++ x) ≡ t → t ≡ false
    go true e = let f : is_prefix q r ≡ true = ap (is_prefix q) (same-is r (q ++ x) e) ∙ prefix-append q x in cc
    go false e = refl

pub not-above : (q r x : List (List ℕ)) → is_prefix q r ≡ false → same_path (q ++ x) r ≡ false
not-above q r x h = go (same_path (q ++ x) r) refl
  where
    go : (t : Bool) → same_path (q ++ x) r ≡ t → t ≡ false
    go true e = let f : is_prefix q r ≡ true = ap (is_prefix q) (sym (same-is (q ++ x) r e)) ∙ prefix-append q x in cc
    go false e = refl

module _ (p q : List (List ℕ)) where
  pub path-moves : (r : List (List ℕ)) → is_prefix p r ≡ true → moved_path p q r ≡ q ++ drop (length p) r
  path-moves r h = ap (λ (t : Bool). cond t (q ++ drop (length p) r) r) h

  pub path-stays : (r : List (List ℕ)) → is_prefix p r ≡ false → moved_path p q r ≡ r
  path-stays r h = ap (λ (t : Bool). cond t (q ++ drop (length p) r) r) h

  pub path-below : (x : List (List ℕ)) → moved_path p q (p ++ x) ≡ q ++ x
  path-below x = path-moves (p ++ x) (prefix-append p x) ∙ ap (λ (s : List (List ℕ)). q ++ s) (drop_at p x (length p) refl)

  pub path-itself : moved_path p q p ≡ q
  path-itself = ap (moved_path p q) (sym (append-nil p)) ∙ path-below [] ∙ append-nil q

  -- the name after a moved path is the same
  pub path-child : (d : List (List ℕ)) (x : List ℕ) → is_prefix p d ≡ true → moved_path p q (d ++ x ∷ []) ≡ moved_path p q d ++ x ∷ []
  path-child d x h =
      ap (λ (s : List (List ℕ)). moved_path p q (s ++ x ∷ [])) (prefix-split p d h)
      ∙ ap (moved_path p q) (append_assoc p (drop (length p) d) (x ∷ []))
      ∙ path-below (drop (length p) d ++ x ∷ [])
      ∙ sym (append_assoc q (drop (length p) d) (x ∷ []))
      ∙ ap (λ (s : List (List ℕ)). s ++ x ∷ []) (sym (path-moves d h))

  -- a path after the move is below q if it was below p
  pub same-moved : (r x : List (List ℕ)) → is_prefix q r ≡ false → same_path (moved_path p q r) (q ++ x) ≡ same_path r (p ++ x)
  same-moved r x free = go (is_prefix p r) refl
    where
      go : (t : Bool) → is_prefix p r ≡ t → same_path (cond t (q ++ drop (length p) r) r) (q ++ x) ≡ same_path r (p ++ x)
      go true e = same-append q (drop (length p) r) x ∙ sym (same-append p (drop (length p) r) x) ∙ ap (λ (s : List (List ℕ)). same_path s (p ++ x)) (sym (prefix-split p r e))
      go false e = not-below q r x free ∙ sym (not-below p r x e)

  -- no other path becomes one that is not below q
  pub same-other : (r s : List (List ℕ)) → is_prefix q s ≡ false → same_path (moved_path p q r) s ≡ cond (is_prefix p r) false (same_path r s)
  same-other r s h = go (is_prefix p r)
    where
      go : (t : Bool) → same_path (cond t (q ++ drop (length p) r) r) s ≡ cond t false (same_path r s)
      go true = not-above q s (drop (length p) r) h
      go false = refl
