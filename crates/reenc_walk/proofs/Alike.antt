-- Lists that are compared one element after another.
use Rattle.std.proofs.Common.{◌≡◌, ℕ, ◌+◌, ◌<◌, ◌≤◌, zero, suc, Bool, true, false, ◌&&◌, List, [], ◌∷◌, length, get_or, drop, refl, sym, ap, ◌∙◌, subst, arith, Ordering}
use Rattle.std.specs.Prelude.{nat_lt}
use Rattle.std.specs.declared.cmp.Ordering.TheVariants.{Less, Equal, Greater}
use Rattle.std.specs.Ordering.{nat_cmp, is_lt, ordering_then}
use Rattle.std.specs.Cmp.Lexicographic.{slice_cmp}
use Rattle.std.proofs.lemmas.Bool.Decides.{nat_tests}
use Rattle.name_calls.specs.Paths.{is_before, path_cmp}
use Rattle.reenc_walk.specs.declared.sent.Sent.{Sent}
use Rattle.reenc_walk.specs.Files.{same_file, same_sent}
use Rattle.reenc_walk.proofs.Retires.{drop-at, drop-end}

and-no : (b : Bool) → (b && false) ≡ false
and-no true = refl
and-no false = refl

pub other-length : (xs ys : List Sent) → (length xs ≡ length ys → ⊥) → false ≡ same_sent xs ys
other-length [] [] h = absurd (h refl)
other-length [] (y ∷ ys) h = refl
other-length (x ∷ xs) [] h = refl
other-length (x ∷ xs) (y ∷ ys) h = sym (and-no (same_file x y)) ∙ ap (λ (b : Bool). same_file x y && b) (other-length xs ys (λ e. h (ap suc e)))

step : (xs ys : List Sent) (k : ℕ) (x y : Sent) (t : Bool) → k < length xs → k < length ys → x ≡ get_or xs k x → y ≡ get_or ys k y → same_file x y ≡ t → same_sent (drop k xs) (drop k ys) ≡ same_sent xs ys → (t && same_sent (drop (suc k) xs) (drop (suc k) ys)) ≡ same_sent xs ys
step xs ys k x y t h i e f g w =
    ap (λ (b : Bool). b && same_sent (drop (suc k) xs) (drop (suc k) ys)) (sym g)
    ∙ sym (λ j. same_sent (drop-at xs k x h e j) (drop-at ys k y i f j)) ∙ w

pub other-file : (xs ys : List Sent) (k : ℕ) (x y : Sent) → k < length xs → k < length ys → x ≡ get_or xs k x → y ≡ get_or ys k y → same_file x y ≡ false → same_sent (drop k xs) (drop k ys) ≡ same_sent xs ys → false ≡ same_sent xs ys
other-file xs ys k x y h i e f g w = step xs ys k x y false h i e f g w

pub same-more : (xs ys : List Sent) (k : ℕ) (x y : Sent) → k < length xs → k < length ys → x ≡ get_or xs k x → y ≡ get_or ys k y → same_file x y ≡ true → same_sent (drop k xs) (drop k ys) ≡ same_sent xs ys → same_sent (drop (k + 1) xs) (drop (k + 1) ys) ≡ same_sent xs ys
same-more xs ys k x y h i e f g w =
    let n : suc k ≡ k + 1 = omega arith in
    subst (λ (m : ℕ). same_sent (drop m xs) (drop m ys) ≡ same_sent xs ys) n (step xs ys k x y true h i e f g w)

pub same-all : (xs ys : List Sent) (k : ℕ) → length xs ≡ length ys → length xs ≤ k → same_sent (drop k xs) (drop k ys) ≡ same_sent xs ys → true ≡ same_sent xs ys
same-all xs ys k e h w = sym (λ j. same_sent (drop-end xs k h j) (drop-end ys k (omega arith) j)) ∙ w

-- how two paths compare whose names up to a place are the same
module _ (p q : List (List ℕ)) (k : ℕ) (x y : List ℕ) (in-p : k < length p) (in-q : k < length q) (is-x : x ≡ get_or p k []) (is-y : y ≡ get_or q k []) (so_far : path_cmp (drop k p) (drop k q) ≡ path_cmp p q) where
  head : (r : List (List ℕ)) (n : ℕ) (z : List ℕ) → n < length r → z ≡ get_or r n [] → drop n r ≡ z ∷ drop (suc n) r
  head [] n z h e = absurd (omega arith)
  head (a ∷ r) zero z h e = ap (λ (b : List ℕ). b ∷ r) (sym e)
  head (a ∷ r) (suc n) z h e = head r n z (omega arith) e

  names : (o : Ordering) → slice_cmp nat_cmp x y ≡ o → ordering_then o (path_cmp (drop (suc k) p) (drop (suc k) q)) ≡ path_cmp p q
  names o e =
      ap (λ (o : Ordering). ordering_then o (path_cmp (drop (suc k) p) (drop (suc k) q))) (sym e)
      ∙ sym (λ j. path_cmp (head p k x in-p is-x j) (head q k y in-q is-y j)) ∙ so_far

  pub less-name : slice_cmp nat_cmp x y ≡ Less → true ≡ is_before p q
  less-name e = ap is_lt (names Less e)

  pub greater-name : slice_cmp nat_cmp x y ≡ Greater → false ≡ is_before p q
  greater-name e = ap is_lt (names Greater e)

  pub equal-name : slice_cmp nat_cmp x y ≡ Equal → path_cmp (drop (k + 1) p) (drop (k + 1) q) ≡ path_cmp p q
  equal-name e = let n : suc k ≡ k + 1 = omega arith in subst (λ (m : ℕ). path_cmp (drop m p) (drop m q) ≡ path_cmp p q) n (names Equal e)

-- one of the paths has no more names
pub shorter-first : (p q : List (List ℕ)) (k : ℕ) → k ≤ length p → k ≤ length q → (k < length p → length q ≤ k) → path_cmp (drop k p) (drop k q) ≡ path_cmp p q → nat_lt (length p) (length q) ≡ is_before p q
shorter-first p q k h i n e = ends p q k h i n ∙ ap is_lt e
  where
    some : (n : ℕ) → nat_lt 0 (suc n) ≡ true
    some n = grind (arith, nat_tests)

    none : (n : ℕ) → nat_lt n 0 ≡ false
    none n = grind (arith, nat_tests)

    both : (m n : ℕ) → nat_lt (suc m) (suc n) ≡ nat_lt m n
    both m n = grind (arith, nat_tests)

    ends : (p q : List (List ℕ)) (k : ℕ) → k ≤ length p → k ≤ length q → (k < length p → length q ≤ k) → nat_lt (length p) (length q) ≡ is_lt (path_cmp (drop k p) (drop k q))
    ends [] [] zero h i n = none 0
    ends [] (y ∷ q) zero h i n = some (length q)
    ends (x ∷ p) [] zero h i n = none (suc (length p))
    ends (x ∷ p) (y ∷ q) zero h i n = absurd (let m = n (omega arith) in omega arith)
    ends [] q (suc k) h i n = absurd (omega arith)
    ends (x ∷ p) [] (suc k) h i n = absurd (omega arith)
    ends (x ∷ p) (y ∷ q) (suc k) h i n = both (length p) (length q) ∙ ends p q k (omega arith) (omega arith) (λ b. let m = n (omega arith) in omega arith)
