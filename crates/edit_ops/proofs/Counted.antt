-- Values that are read one after the other.
use Rattle.std.proofs.Common.{◌≡◌, ℕ, ◌+◌, ◌-◌, ◌<◌, ◌≤◌, suc, cond, eqb, get_or, take, List, [], ◌∷◌, ◌++◌, length, Option, Some, None, refl, sym, ap, ◌∙◌, subst, arith, append_assoc}
use Rattle.std.specs.List.{AllByRecursion}
use Rattle.std.proofs.lemmas.List.{append-nil, take_more}
use Rattle.hk_base.specs.declared.records.RecordFault.{RecordFault}
use Rattle.hk_base.specs.declared.records.RecordFault.TheVariants.{NoRecord, NoMemory}
use Rattle.key_rows.specs.Reading.{◌>>=◌, FailsToRead}
use Rattle.key_rows.proofs.Births.{each_more}
use Rattle.edit_ops.specs.Records.{list_field}
use Rattle.edit_ops.specs.Reading.{Front, last, times_at}

module _ {X : Type 0} (front : Front X) where
  abbrev with_more : List X → List X × List ℕ → Option (List X × List ℕ)
  with_more xs ys = Some (xs ++ ys.0, ys.1)

  -- reading n values goes on after some of them with reading m values from what is left
  abbrev pub GoesOn : ℕ → List ℕ → List X → ℕ → List ℕ → Type 0
  GoesOn n bytes xs m left = times_at front n bytes ≡ (times_at front m left >>= with_more xs)

  pub goes-on-first : (n : ℕ) (bytes : List ℕ) → GoesOn n bytes [] (n - 0) bytes
  goes-on-first n bytes = by_value (times_at front n bytes) ∙ ap (λ (m : ℕ). times_at front m bytes >>= with_more []) (let e : n ≡ n - 0 = omega arith in e)
    where
      by_value : (o : Option (List X × List ℕ)) → o ≡ (o >>= with_more [])
      by_value None = refl
      by_value (Some ys) = refl

  unroll : (n k : ℕ) (left : List ℕ) → k < n → times_at front (n - k) left ≡ (front left >>= λ x. times_at front (n - (k + 1)) x.1 >>= λ ys. Some (x.0 ∷ ys.0, ys.1))
  unroll n k left within = ap (λ (m : ℕ). times_at front m left) (let e : n - k ≡ suc (n - (k + 1)) = omega arith in e)

  pub goes-on-more : (n : ℕ) (bytes : List ℕ) (xs : List X) (k : ℕ) (left : List ℕ) (x : X) (rest : List ℕ) → k < n → front left ≡ Some (x, rest) → GoesOn n bytes xs (n - k) left → GoesOn n bytes (xs ++ x ∷ []) (n - (k + 1)) rest
  goes-on-more n bytes xs k left x rest within e h =
      h ∙ ap (λ (o : Option (List X × List ℕ)). o >>= with_more xs)
      (unroll n k left within ∙ ap (λ (o : Option (X × List ℕ)). o >>= λ y. times_at front (n - (k + 1)) y.1 >>= λ ys. Some (y.0 ∷ ys.0, ys.1)) e)
      ∙ by_value (times_at front (n - (k + 1)) rest)
    where
      by_value : (o : Option (List X × List ℕ)) → ((o >>= λ ys. Some (x ∷ ys.0, ys.1)) >>= with_more xs) ≡ (o >>= with_more (xs ++ x ∷ []))
      by_value None = refl
      by_value (Some ys) = ap (λ (zs : List X). Some (zs, ys.1)) (sym (append_assoc xs (x ∷ []) ys.0))

  pub goes-on-nowhere : (n : ℕ) (bytes : List ℕ) (xs : List X) (k : ℕ) (left : List ℕ) → k < n → front left ≡ None → GoesOn n bytes xs (n - k) left → last (times_at front n) bytes ≡ None
  goes-on-nowhere n bytes xs k left within e h =
      ap (λ (o : Option (List X × List ℕ)). o >>= λ y. cond (eqb (length y.1) 0) (Some y.0) None)
      (h ∙ ap (λ (o : Option (List X × List ℕ)). o >>= with_more xs)
      (unroll n k left within ∙ ap (λ (o : Option (X × List ℕ)). o >>= λ y. times_at front (n - (k + 1)) y.1 >>= λ ys. Some (y.0 ∷ ys.0, ys.1)) e))

  pub goes-on-last : (n : ℕ) (bytes : List ℕ) (xs : List X) (k : ℕ) (left : List ℕ) → n ≤ k → GoesOn n bytes xs (n - k) left → last (times_at front n) bytes ≡ cond (eqb (length left) 0) (Some xs) None
  goes-on-last n bytes xs k left within h =
      ap (λ (o : Option (List X × List ℕ)). o >>= λ y. cond (eqb (length y.1) 0) (Some y.0) None)
      (h ∙ ap (λ (m : ℕ). times_at front m left >>= with_more xs) (let e : n - k ≡ 0 = omega arith in e))
      ∙ ap (λ (ys : List X). cond (eqb (length left) 0) (Some ys) None) (append-nil xs)

list-field-append : {X : Type 0} (field : X → List ℕ) (xs ys : List X) → list_field field (xs ++ ys) ≡ list_field field xs ++ list_field field ys
list-field-append field [] ys = refl
list-field-append field (x ∷ xs) ys = ap (λ (t : List ℕ). field x ++ t) (list-field-append field xs ys) ∙ sym (append_assoc (field x) (list_field field xs) (list_field field ys))

one-more : {X : Type 0} (xs : List X) (k : ℕ) (x : X) → k < length xs → x ≡ get_or xs k x → take (k + 1) xs ≡ take k xs ++ x ∷ []
one-more xs k x within is = take_more xs k x within ∙ ap (λ y. take k xs ++ y ∷ []) (sym is)

-- the fields of the first values, and of one more
pub fields-more : {X : Type 0} (field : X → List ℕ) (xs : List X) (k : ℕ) (x : X) (start out out' : List ℕ) → k < length xs → x ≡ get_or xs k x
    → out ≡ start ++ list_field field (take k xs) → out' ≡ out ++ field x → out' ≡ start ++ list_field field (take (k + 1) xs)
fields-more field xs k x start out out' within is e f =
    f ∙ ap (λ (t : List ℕ). t ++ field x) e ∙ append_assoc start (list_field field (take k xs)) (field x)
    ∙ ap (λ (t : List ℕ). start ++ t)
    (sym (ap (list_field field) (one-more xs k x within is) ∙ list-field-append field (take k xs) (x ∷ []) ∙ ap (λ (t : List ℕ). list_field field (take k xs) ++ t) (append-nil (field x))))

pub all-more : {X : Type 0} (P : X → Type 0) (xs : List X) (k : ℕ) (x : X) → k < length xs → x ≡ get_or xs k x → AllByRecursion P (take k xs) → P x → AllByRecursion P (take (k + 1) xs)
all-more P xs k x within is all p = subst (AllByRecursion P) (sym (one-more xs k x within is)) (each_more P (take k xs) x all p)

-- what fails because another reading fails
pub fails-too : {X Y : Type 0} (fault : RecordFault) (first : Option X) (whole : Option Y) → (first ≡ None → whole ≡ None) → FailsToRead fault first → FailsToRead fault whole
fails-too NoRecord first whole h none = h none
fails-too NoMemory first whole h any = tt
