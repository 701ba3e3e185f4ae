-- The snapshots of one directory are next to each other.
use Rattle.std.proofs.Common.{◌≡◌, ℕ, ◌+◌, ◌-◌, ◌<◌, ◌≤◌, zero, suc, Bool, true, false, cond, List, [], ◌∷◌, length, get_or, take, drop, map, Some, None, refl, sym, ap, ◌∙◌, arith, inl, inr}
use Rattle.std.specs.Prelude.{◌==◌, nat_le, nat_lt, slice_get}
use Rattle.std.specs.List.{filter}
use Rattle.std.specs.List.Sorted.{IsPartitionPoint}
use Rattle.std.proofs.lemmas.Bool.{cases_lt}
use Rattle.std.proofs.lemmas.Bool.Decides.{nat_tests}
use Rattle.snap_store.specs.Snapshots.{Snapshot, count_of, is_of, key_of, names_of}

-- the n from place s on, and no others
abbrev pub Together : List Snapshot → ℕ → ℕ → ℕ → Type 0
Together xs dir s n = (k : ℕ) (d : Snapshot) → k < length xs → (k < s → ((get_or xs k d).dir == dir) ≡ false) × (s ≤ k → k < s + n → ((get_or xs k d).dir == dir) ≡ true) × (s + n ≤ k → ((get_or xs k d).dir == dir) ≡ false)

rest : (x : Snapshot) (xs : List Snapshot) (dir s n : ℕ) → Together (x ∷ xs) dir (suc s) n → Together xs dir s n
rest x xs dir s n h k d b = let w = h (suc k) d (omega arith) in ((λ l. w.0 (omega arith)), (λ l m. w.1 (omega arith) (omega arith)), (λ l. w.2 (omega arith)))

inner : (x : Snapshot) (xs : List Snapshot) (dir n : ℕ) → Together (x ∷ xs) dir 0 (suc n) → Together xs dir 0 n
inner x xs dir n h k d b = let w = h (suc k) d (omega arith) in ((λ l. absurd (omega arith)), (λ l m. w.1 (omega arith) (omega arith)), (λ l. w.2 (omega arith)))

outer : (x : Snapshot) (xs : List Snapshot) (dir : ℕ) → Together (x ∷ xs) dir 0 0 → Together xs dir 0 0
outer x xs dir h k d b = let w = h (suc k) d (omega arith) in ((λ l. absurd (omega arith)), (λ l m. absurd (omega arith)), (λ l. w.2 (omega arith)))

pub together : (xs : List Snapshot) (dir s n : ℕ) → s + n ≤ length xs → Together xs dir s n → filter (is_of dir) xs ≡ take n (drop s xs)
together [] dir zero zero b h = refl
together [] dir zero (suc n) b h = absurd (omega arith)
together [] dir (suc s) n b h = absurd (omega arith)
together (x ∷ xs) dir zero zero b h =
    ap (λ (t : Bool). cond t (x ∷ filter (is_of dir) xs) (filter (is_of dir) xs)) ((h 0 x (omega arith)).2 (omega arith)) ∙ together xs dir 0 0 (omega arith) (outer x xs dir h)
together (x ∷ xs) dir zero (suc n) b h =
    ap (λ (t : Bool). cond t (x ∷ filter (is_of dir) xs) (filter (is_of dir) xs)) ((h 0 x (omega arith)).1 (omega arith) (omega arith)) ∙ ap (λ (ys : List Snapshot). x ∷ ys) (together xs dir 0 n (omega arith) (inner x xs dir n h))
together (x ∷ xs) dir (suc s) n b h =
    ap (λ (t : Bool). cond t (x ∷ filter (is_of dir) xs) (filter (is_of dir) xs)) ((h 0 x (omega arith)).0 (omega arith)) ∙ together xs dir s n (omega arith) (rest x xs dir s n h)

length-block : {X : Type 0} (xs : List X) (s n : ℕ) → s + n ≤ length xs → length (take n (drop s xs)) ≡ n
length-block xs zero zero b = refl
length-block [] zero (suc n) b = absurd (omega arith)
length-block (x ∷ xs) zero (suc n) b = ap suc (length-block xs 0 n (omega arith))
length-block [] (suc s) n b = absurd (omega arith)
length-block (x ∷ xs) (suc s) n b = length-block xs s n (omega arith)

at-block : (xs : List Snapshot) (s n k : ℕ) (d : Snapshot) → s + n ≤ length xs → k < n → slice_get (map (λ (x : Snapshot). x.name) (take n (drop s xs))) k ≡ Some (get_or xs (s + k) d).name
at-block xs zero zero k d b h = absurd (omega arith)
at-block [] zero (suc n) k d b h = absurd (omega arith)
at-block (x ∷ xs) zero (suc n) zero d b h = ap (λ (m : ℕ). Some (get_or (x ∷ xs) m d).name) (none 0)
  where
    none : (k : ℕ) → k ≡ 0 + k
    none k = omega arith
at-block (x ∷ xs) zero (suc n) (suc k) d b h = at-block xs 0 n k d (omega arith) (omega arith) ∙ ap (λ (m : ℕ). Some (get_or (x ∷ xs) m d).name) (shift k)
  where
    shift : (k : ℕ) → suc (0 + k) ≡ 0 + suc k
    shift k = omega arith
at-block [] (suc s) n k d b h = absurd (omega arith)
at-block (x ∷ xs) (suc s) n k d b h = at-block xs s n k d (omega arith) h ∙ ap (λ (m : ℕ). Some (get_or (x ∷ xs) m d).name) (shift s k)
  where
    shift : (s k : ℕ) → suc (s + k) ≡ suc s + k
    shift s k = omega arith

past-block : (xs : List Snapshot) (s n k : ℕ) → n ≤ k → slice_get (map (λ (x : Snapshot). x.name) (take n (drop s xs))) k ≡ None
past-block xs s n k h = go (drop s xs) n k h
  where
    go : (ys : List Snapshot) (n k : ℕ) → n ≤ k → slice_get (map (λ (x : Snapshot). x.name) (take n ys)) k ≡ None
    go ys zero k h = refl
    go [] (suc n) k h = refl
    go (y ∷ ys) (suc n) zero h = absurd (omega arith)
    go (y ∷ ys) (suc n) (suc k) h = go ys n k (omega arith)

lt-not-same : (a b : ℕ) → nat_lt a b ≡ true → (a == b) ≡ false
lt-not-same a b h = grind (arith, nat_tests)

both-same : (a b : ℕ) → nat_lt a b ≡ false → nat_le a b ≡ true → (a == b) ≡ true
both-same a b h k = grind (arith, nat_tests)

le-not-same : (a b : ℕ) → nat_le a b ≡ false → (a == b) ≡ false
le-not-same a b h = grind (arith, nat_tests)

lt-le : (a b : ℕ) → nat_lt a b ≡ true → nat_le a b ≡ false → ⊥
lt-le a b h k = grind (arith, nat_tests)

-- by the first snapshot of the directory, and the first after those
module _ (xs : List Snapshot) (dir first end : ℕ) (most : first ≤ length xs) (all : end ≤ length xs)
    (low : IsPartitionPoint (λ x. nat_lt x.dir dir ≡ true) (λ x. nat_lt x.dir dir ≡ false) xs first) (high : IsPartitionPoint (λ x. nat_le x.dir dir ≡ true) (λ x. nat_le x.dir dir ≡ false) xs end) where
  pub in-order : first ≤ end
  in-order = elim (cases_lt end first) [ inl a ↦ absurd (lt-le (get_or xs end (key_of 0 [])).dir dir (low.0 end (key_of 0 []) (omega arith) a) (high.1 end (key_of 0 []) (omega arith) (omega arith))) | inr a ↦ a ]

  block : Together xs dir first (end - first)
  block k d b = let o : first ≤ end = in-order in (
    (λ l. lt-not-same (get_or xs k d).dir dir (low.0 k d (omega arith) l)),
    (λ l m. both-same (get_or xs k d).dir dir (low.1 k d l b) (high.0 k d (omega arith) (omega arith))),
    (λ l. le-not-same (get_or xs k d).dir dir (high.1 k d (omega arith) b)),
  )

  inside : first + (end - first) ≤ length xs
  inside = let o : first ≤ end = in-order in omega arith

  pub counted : count_of xs dir ≡ end - first
  counted = ap length (together xs dir first (end - first) inside block) ∙ length-block xs first (end - first) inside

  pub name-inside : (at : ℕ) (x : Snapshot) → at < end - first → x ≡ get_or xs (first + at) x → slice_get (names_of xs dir) at ≡ Some x.name
  name-inside at x h e =
      ap (λ (ys : List Snapshot). slice_get (map (λ (y : Snapshot). y.name) ys) at) (together xs dir first (end - first) inside block)
      ∙ at-block xs first (end - first) at x inside h ∙ ap (λ (y : Snapshot). Some y.name) (sym e)

  pub name-past : (at : ℕ) → end - first ≤ at → slice_get (names_of xs dir) at ≡ None
  name-past at h =
      ap (λ (ys : List Snapshot). slice_get (map (λ (y : Snapshot). y.name) ys) at) (together xs dir first (end - first) inside block)
      ∙ past-block xs first (end - first) at h
