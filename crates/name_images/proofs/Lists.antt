-- Fields of the first values of a list, and of one more.
use Rattle.std.proofs.Common.{◌≡◌, ℕ, ◌+◌, ◌<◌, ◌≤◌, zero, suc, get_or, take, drop, List, [], ◌∷◌, ◌++◌, length, Some, refl, sym, ap, ◌∙◌, append_assoc, arith}
use Rattle.std.specs.Prelude.{slice_get}
use Rattle.std.proofs.lemmas.List.{append-nil, take_more}
use Rattle.edit_ops.specs.Records.{list_field}

pub list-field-append : {X : Type 0} (field : X → List ℕ) (xs ys : List X) → list_field field (xs ++ ys) ≡ list_field field xs ++ list_field field ys
list-field-append field [] ys = refl
list-field-append field (x ∷ xs) ys = ap (λ (t : List ℕ). field x ++ t) (list-field-append field xs ys) ∙ sym (append_assoc (field x) (list_field field xs) (list_field field ys))

pub fields-more : {X : Type 0} (field : X → List ℕ) (xs : List X) (k : ℕ) (x : X) → k < length xs → x ≡ get_or xs k x → list_field field (take (k + 1) xs) ≡ list_field field (take k xs) ++ field x
fields-more field xs k x within is =
    ap (list_field field) (take_more xs k x within ∙ ap (λ y. take k xs ++ y ∷ []) (sym is)) ∙ list-field-append field (take k xs) (x ∷ [])
    ∙ ap (λ (t : List ℕ). list_field field (take k xs) ++ t) (append-nil (field x))

-- what is found at an index
pub at-is : {X : Type 0} (xs : List X) (k : ℕ) (d x : X) → slice_get xs k ≡ Some x → get_or xs k d ≡ x
at-is [] zero d x h = cc
at-is [] (suc k) d x h = cc
at-is (y ∷ xs) zero d x h = cc
at-is (y ∷ xs) (suc k) d x h = at-is xs k d x h

-- bytes that agree

pub at-dropped : (n i : ℕ) (xs : List ℕ) → get_or (drop n xs) i 0 ≡ get_or xs (n + i) 0
at-dropped zero i xs = ap (λ (k : ℕ). get_or xs k 0) (first i)
  where
    first : (k : ℕ) → k ≡ 0 + k
    first k = omega arith
at-dropped (suc n) i [] = none i ∙ sym (none (suc n + i))
  where
    none : (k : ℕ) → get_or {A = ℕ} [] k 0 ≡ (get_or {A = ℕ} [] 0 0)
    none zero = refl
    none (suc k) = refl
at-dropped (suc n) i (x ∷ xs) = at-dropped n i xs ∙ ap (λ (k : ℕ). get_or (x ∷ xs) k 0) (more n i)
  where
    more : (m k : ℕ) → suc (m + k) ≡ suc m + k
    more m k = omega arith

pub same-front : (r : ℕ) (xs ys : List ℕ) → r ≤ length xs → r ≤ length ys → ((i : ℕ) → i < r → get_or xs i 0 ≡ get_or ys i 0) → take r xs ≡ take r ys
same-front zero xs ys a b h = refl
same-front (suc r) [] ys a b h = absurd (omega arith)
same-front (suc r) (x ∷ xs) [] a b h = absurd (omega arith)
same-front (suc r) (x ∷ xs) (y ∷ ys) a b h = λ i. h 0 (omega arith) i ∷ same-front r xs ys (omega arith) (omega arith) (λ k lt. h (suc k) (omega arith)) i
