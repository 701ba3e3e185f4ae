-- Numbers in order are determined by how many are below each bound.
use Rattle.std.proofs.Common.{◌≡◌, ℕ, ◌+◌, ◌<◌, ◌≤◌, suc, cond, List, [], ◌∷◌, length, get_or, refl, sym, ap, ◌∙◌, arith, inl, inr}
use Rattle.std.specs.Prelude.{nat_lt, ⊤}
use Rattle.std.specs.List.{sum_by}
use Rattle.std.specs.List.Sorted.{IsNonDecreasingBy, IsPermutation}
use Rattle.std.proofs.lemmas.Bool.{cases_lt}
use Rattle.std.proofs.lemmas.Bool.Decides.{nat_tests}
use Rattle.std.proofs.lemmas.List.Sums.{sum_by-cons}
use Rattle.std.proofs.lemmas.List.Sorted.{sum_by-IsPermutation}

-- each number is n or more
abbrev pub AllUpFrom : ℕ → List ℕ → Type 0
AllUpFrom n [] = ⊤
AllUpFrom n (x ∷ xs) = (n ≤ x) × AllUpFrom n xs

-- no number is below an earlier one
abbrev pub Climbs : List ℕ → Type 0
Climbs [] = ⊤
Climbs (x ∷ xs) = AllUpFrom x xs × Climbs xs

-- 1 if the number is below the bound, else 0
unfoldable pub one : ℕ → ℕ → ℕ
one t x = cond (nat_lt x t) 1 0

-- the number of elements below the bound
unfoldable pub count : ℕ → List ℕ → ℕ
count t xs = sum_by (one t) xs

count-cons : (t x : ℕ) (xs : List ℕ) → count t (x ∷ xs) ≡ one t x + count t xs
unfolding count
count-cons t x xs = sum_by-cons (one t) x xs

one-below : (t x : ℕ) → x < t → one t x ≡ 1
unfolding one
one-below t x h = grind (arith, nat_tests)

one-above : (t x : ℕ) → t ≤ x → one t x ≡ 0
unfolding one
one-above t x h = grind (arith, nat_tests)

count-none : (t : ℕ) → count t [] ≡ 0
unfolding count
count-none t = refl

count-above : (t n : ℕ) (xs : List ℕ) → t ≤ n → AllUpFrom n xs → count t xs ≡ 0
count-above t n [] h a = count-none t
count-above t n (x ∷ xs) h a = let e = count-cons t x xs in let f = one-above t x (omega arith) in let g = count-above t n xs h a.1 in omega arith

-- of two lists in order with the same counts, neither begins lower
not-lower : (x y : ℕ) (xs ys : List ℕ) → AllUpFrom y ys → ((t : ℕ) → count t (x ∷ xs) ≡ count t (y ∷ ys)) → x < y → ⊥
not-lower x y xs ys a same h =
    let e = count-cons (suc x) x xs in
    let f = one-below (suc x) x (omega arith) in
    let g = count-above (suc x) y (y ∷ ys) (omega arith) (omega arith, a) in
    let s = same (suc x) in
    omega arith

not-none : (y : ℕ) (ys : List ℕ) → ((t : ℕ) → count t [] ≡ count t (y ∷ ys)) → ⊥
not-none y ys same =
    let e = count-cons (suc y) y ys in
    let f = one-below (suc y) y (omega arith) in
    let g = count-none (suc y) in
    let s = same (suc y) in
    omega arith

tails : (t x y : ℕ) (xs ys : List ℕ) → x ≡ y → count t (x ∷ xs) ≡ count t (y ∷ ys) → count t xs ≡ count t ys
tails t x y xs ys e s = let f = count-cons t x xs in let g = count-cons t y ys in let k = ap (one t) e in omega arith

pub same-climbs : (xs ys : List ℕ) → Climbs xs → Climbs ys → ((t : ℕ) → count t xs ≡ count t ys) → xs ≡ ys
same-climbs [] [] c d same = refl
same-climbs [] (y ∷ ys) c d same = absurd (not-none y ys same)
same-climbs (x ∷ xs) [] c d same = absurd (not-none x xs (λ t. sym (same t)))
same-climbs (x ∷ xs) (y ∷ ys) c d same =
    elim (cases_lt x y) [
      | inl h ↦ absurd (not-lower x y xs ys d.0 same h)
      | inr h ↦ elim (cases_lt y x) [
        | inl g ↦ absurd (not-lower y x ys xs c.0 (λ t. sym (same t)) g)
        | inr g ↦ let e : x ≡ y = omega arith in let rest : xs ≡ ys = same-climbs xs ys c.1 d.1 (λ t. tails t x y xs ys e (same t)) in cc
      ]
    ]

up-from : (x : ℕ) (xs : List ℕ) → ((k d : ℕ) → k < length xs → x ≤ get_or xs k d) → AllUpFrom x xs
up-from x [] h = tt
up-from x (y ∷ ys) h = (h 0 0 (omega arith), up-from x ys (λ k d b. h (suc k) d (omega arith)))

climbs-from : (xs : List ℕ) → IsNonDecreasingBy (λ x. x) xs → Climbs xs
climbs-from [] r = tt
climbs-from (x ∷ xs) r = (up-from x xs (λ k d b. r 0 (suc k) d (omega arith) (omega arith)), climbs-from xs (λ i j d low high. r (suc i) (suc j) d (omega arith) (omega arith)))

-- sorting a permutation of numbers in order gives them back
pub sorted-back : (xs ys zs : List ℕ) → Climbs xs → IsPermutation xs ys → IsPermutation ys zs → IsNonDecreasingBy (λ x. x) zs → zs ≡ xs
unfolding count
sorted-back xs ys zs c p q r = same-climbs zs xs (climbs-from zs r) c (λ t. sum_by-IsPermutation (one t) ys zs q ∙ sum_by-IsPermutation (one t) xs ys p)
