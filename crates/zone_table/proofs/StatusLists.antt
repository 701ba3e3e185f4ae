-- The place of a status in the list, and lists of which the first statuses have ended.
use Rattle.std.proofs.Common.{◌≡◌, ℕ, ◌+◌, ◌<◌, ◌≤◌, zero, suc, Bool, true, false, not, cond, List, [], ◌∷◌, ◌++◌, length, map, set, get_or, Option, Some, None, refl, sym, ap, ◌∙◌, subst, arith}
use Rattle.std.specs.Prelude.{nat_lt, slice_get}
use Rattle.std.specs.List.{find, position, position_or_len}
use Rattle.std.proofs.lemmas.List.Folds.{find_at}
use Rattle.std.proofs.lemmas.Option.{slice_get-get_or, slice_get_past}
use Rattle.std.proofs.lemmas.Bool.{ltb-true, ltb-false}
use Rattle.zone_table.specs.declared.statuses.StatusRow.{StatusRow}
use Rattle.name_calls.specs.declared.paths.NPath.{NPath}
use Rattle.zone_table.specs.Statuses.{counted, goes_on_under, is_of, with_counts, with_status}

next : (n : ℕ) → 1 + n ≡ suc n
next n = omega arith

module _ {X : Type 0} (p : X → Bool) (xs : List X) where
  -- the index that is given is within the list
  pub placed : (at : ℕ) → Some at ≡ position p xs → (position_or_len p xs ≡ at) × (at < length xs)
  placed at h = go (nat_lt (position_or_len p xs) (length xs)) refl (sym h)
    where
      go : (b : Bool) → nat_lt (position_or_len p xs) (length xs) ≡ b → cond b (Some (position_or_len p xs)) None ≡ Some at → (position_or_len p xs ≡ at) × (at < length xs)
      go true e f = let same : position_or_len p xs ≡ at = cc in (same, subst (λ (n : ℕ). n < length xs) same (ltb-true _ _ e))
      go false e f = cc

  pub unplaced : None ≡ position p xs → length xs ≤ position_or_len p xs
  unplaced h = go (nat_lt (position_or_len p xs) (length xs)) refl (sym h)
    where
      go : (b : Bool) → nat_lt (position_or_len p xs) (length xs) ≡ b → cond b (Some (position_or_len p xs)) None ≡ None → length xs ≤ position_or_len p xs
      go true e f = cc
      go false e f = ltb-false _ _ e

  -- what is found is at that index
  pub found-at : (at : ℕ) (x : X) → Some at ≡ position p xs → x ≡ get_or xs at x → Some x ≡ find p xs
  found-at at x h e =
      let place = placed at h in
      ap (λ (y : X). Some y) e ∙ sym (slice_get-get_or xs at x place.1) ∙ ap (slice_get xs) (sym place.0) ∙ sym (find_at p xs)

  pub found-none : None ≡ position p xs → None ≡ find p xs
  found-none h = sym (find_at p xs ∙ slice_get_past xs (position_or_len p xs) (unplaced h))

-- a status in the place of the earlier one of its zone
with-set : (s : StatusRow) (ts : List StatusRow) → position_or_len (is_of s.zone) ts < length ts → set ts (position_or_len (is_of s.zone) ts) s ≡ with_status s ts
with-set s [] h = absurd (omega arith)
with-set s (t ∷ ts) h = go (is_of s.zone t) h (with-set s ts)
  where
    go : (b : Bool) → cond (not b) (1 + position_or_len (is_of s.zone) ts) 0 < length (t ∷ ts) → (position_or_len (is_of s.zone) ts < length ts → set ts (position_or_len (is_of s.zone) ts) s ≡ with_status s ts)
        → set (t ∷ ts) (cond (not b) (1 + position_or_len (is_of s.zone) ts) 0) s ≡ cond b (s ∷ ts) (t ∷ with_status s ts)
    go true h ih = refl
    go false h ih = ap (λ (n : ℕ). set (t ∷ ts) n s) (next (position_or_len (is_of s.zone) ts)) ∙ ap (λ (l : List StatusRow). t ∷ l) (ih (omega arith))

-- and at the end
with-push : (s : StatusRow) (ts : List StatusRow) → length ts ≤ position_or_len (is_of s.zone) ts → ts ++ s ∷ [] ≡ with_status s ts
with-push s [] h = refl
with-push s (t ∷ ts) h = go (is_of s.zone t) h (with-push s ts)
  where
    go : (b : Bool) → length (t ∷ ts) ≤ cond (not b) (1 + position_or_len (is_of s.zone) ts) 0 → (length ts ≤ position_or_len (is_of s.zone) ts → ts ++ s ∷ [] ≡ with_status s ts) → t ∷ ts ++ s ∷ [] ≡ cond b (s ∷ ts) (t ∷ with_status s ts)
    go true h ih = absurd (omega arith)
    go false h ih = ap (λ (l : List StatusRow). t ∷ l) (ih (omega arith))

pub put-placed : (s : StatusRow) (ts : List StatusRow) (at : ℕ) → Some at ≡ position (is_of s.zone) ts → set ts at s ≡ with_status s ts
put-placed s ts at h =
    let place = placed (is_of s.zone) ts at h in
    ap (λ (n : ℕ). set ts n s) (sym place.0) ∙ with-set s ts (subst (λ (n : ℕ). n < length ts) (sym place.0) place.1)

pub put-unplaced : (s : StatusRow) (ts : List StatusRow) → None ≡ position (is_of s.zone) ts → ts ++ s ∷ [] ≡ with_status s ts
put-unplaced s ts h = with-push s ts (unplaced (is_of s.zone) ts h)

-- files that are counted in the first status that goes on under the session
module _ (session changed failed : ℕ) (mark : Option NPath) where
  counted-set : (ts : List StatusRow) (d : StatusRow) → position_or_len (goes_on_under session) ts < length ts
      → set ts (position_or_len (goes_on_under session) ts) (with_counts changed failed mark (get_or ts (position_or_len (goes_on_under session) ts) d)) ≡ counted session changed failed mark ts
  counted-set [] d h = absurd (omega arith)
  counted-set (t ∷ ts) d h = go (goes_on_under session t) h (counted-set ts d)
    where
      at : ℕ
      at = position_or_len (goes_on_under session) ts

      put : (xs : List StatusRow) → ℕ → List StatusRow
      put xs k = set xs k (with_counts changed failed mark (get_or xs k d))

      go : (b : Bool) → cond (not b) (1 + at) 0 < length (t ∷ ts) → (at < length ts → put ts at ≡ counted session changed failed mark ts)
          → put (t ∷ ts) (cond (not b) (1 + at) 0) ≡ cond b (with_counts changed failed mark t ∷ ts) (t ∷ counted session changed failed mark ts)
      go true h ih = refl
      go false h ih = ap (put (t ∷ ts)) (next at) ∙ ap (λ (l : List StatusRow). t ∷ l) (ih (omega arith))

  counted-none : (ts : List StatusRow) → length ts ≤ position_or_len (goes_on_under session) ts → ts ≡ counted session changed failed mark ts
  counted-none [] h = refl
  counted-none (t ∷ ts) h = go (goes_on_under session t) h (counted-none ts)
    where
      at : ℕ
      at = position_or_len (goes_on_under session) ts

      go : (b : Bool) → length (t ∷ ts) ≤ cond (not b) (1 + at) 0 → (length ts ≤ at → ts ≡ counted session changed failed mark ts) → t ∷ ts ≡ cond b (with_counts changed failed mark t ∷ ts) (t ∷ counted session changed failed mark ts)
      go true h ih = absurd (omega arith)
      go false h ih = ap (λ (l : List StatusRow). t ∷ l) (ih (omega arith))

  pub counted-placed : (ts : List StatusRow) (d : StatusRow) (at : ℕ) → Some at ≡ position (goes_on_under session) ts
      → set ts at (with_counts changed failed mark (get_or ts at d)) ≡ counted session changed failed mark ts
  counted-placed ts d at h =
      let place = placed (goes_on_under session) ts at h in
      ap (λ (n : ℕ). set ts n (with_counts changed failed mark (get_or ts n d))) (sym place.0)
      ∙ counted-set ts d (subst (λ (n : ℕ). n < length ts) (sym place.0) place.1)

  pub counted-unplaced : (ts : List StatusRow) → None ≡ position (goes_on_under session) ts → ts ≡ counted session changed failed mark ts
  counted-unplaced ts h = counted-none ts (unplaced (goes_on_under session) ts h)

-- the list after its first k elements have changed
abbrev pub changed_until : {X : Type 0} → (X → X) → ℕ → List X → List X
changed_until f zero xs = xs
changed_until f (suc k) [] = []
changed_until f (suc k) (x ∷ xs) = f x ∷ changed_until f k xs

pub changed-step : {X : Type 0} (f : X → X) (k : ℕ) (xs : List X) (d : X) → k < length xs → set (changed_until f k xs) k (f (get_or (changed_until f k xs) k d)) ≡ changed_until f (suc k) xs
changed-step f k [] d h = absurd (omega arith)
changed-step f zero (x ∷ xs) d h = refl
changed-step f (suc k) (x ∷ xs) d h = ap (λ (l : List _). f x ∷ l) (changed-step f k xs d (omega arith))

pub changed-all : {X : Type 0} (f : X → X) (k : ℕ) (xs : List X) → length xs ≤ k → changed_until f k xs ≡ map f xs
changed-all f zero [] h = refl
changed-all f zero (x ∷ xs) h = absurd (omega arith)
changed-all f (suc k) [] h = refl
changed-all f (suc k) (x ∷ xs) h = ap (λ (l : List _). f x ∷ l) (changed-all f k xs (omega arith))
