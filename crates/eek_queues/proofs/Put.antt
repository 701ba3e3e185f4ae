-- Inserting an element at its place in an order.
use Rattle.std.proofs.Common.{◌≡◌, ℕ, ◌<◌, ◌≤◌, zero, suc, Bool, true, false, cond, List, [], ◌∷◌, length, map, refl, sym, ap, subst, ◌∙◌, arith}
use Rattle.std.specs.List.{insert, remove, AllByRecursion}
use Rattle.std.specs.List.Sorted.{IsPartitionPoint}
use Rattle.std.proofs.lemmas.Bool.{both_ways}
use Rattle.eek_queues.specs.Queues.{put}

-- the elements at indices below i are before x, and those from i on are not
abbrev pub Parted : {X : Type 0} → (X → X → Bool) → X → List X → ℕ → Type 0
Parted before x xs i = IsPartitionPoint (λ y. before y x ≡ true) (λ y. before y x ≡ false) xs i

module _ {X : Type 0} (before : X → X → Bool) where
  pub parted-rest : (x y : X) (ys : List X) (i : ℕ) → Parted before x (y ∷ ys) (suc i) → Parted before x ys i
  parted-rest x y ys i h = (λ k d low high. h.0 (suc k) d (omega arith) (omega arith), λ k d low high. h.1 (suc k) d (omega arith) (omega arith))

  pub put-insert : (x : X) (ys : List X) (i : ℕ) → i ≤ length ys → Parted before x ys i → put before x ys ≡ insert ys i x
  put-insert x [] zero b h = refl
  put-insert x [] (suc i) b h = absurd (omega arith)
  put-insert x (y ∷ ys) zero b h =
      ap (λ (t : Bool). cond t (y ∷ put before x ys) (x ∷ y ∷ ys)) (h.1 0 y (omega arith) (omega arith))
  put-insert x (y ∷ ys) (suc i) b h =
      ap (λ (t : Bool). cond t (y ∷ put before x ys) (x ∷ y ∷ ys)) (h.0 0 y (omega arith) (omega arith))
      ∙ ap (λ (zs : List X). y ∷ zs) (put-insert x ys i (omega arith) (parted-rest x y ys i h))

  pub length-put : (x : X) (ys : List X) → length (put before x ys) ≡ suc (length ys)
  length-put x [] = refl
  length-put x (y ∷ ys) = go (before y x) (length-put x ys)
    where
      go : (t : Bool) → length (put before x ys) ≡ suc (length ys) → length (cond t (y ∷ put before x ys) (x ∷ y ∷ ys)) ≡ suc (suc (length ys))
      go true ih = omega (arith, ih)
      go false ih = refl

  -- the inserted element is at the partition point of the others
  pub remove-put : (x : X) (ys : List X) (i : ℕ) → before x x ≡ false → i ≤ length (put before x ys) → Parted before x (put before x ys) i → (remove (put before x ys) i ≡ ys) × (i < length (put before x ys))
  remove-put x [] zero n b h = (refl, omega arith)
  remove-put x [] (suc i) n b h = absurd (both_ways (before x x) n (h.0 0 x (omega arith) (omega arith)))
  remove-put x (y ∷ ys) i n b h = go (λ j. remove-put x ys j n) (before y x) refl i b h
    where
      go : ((j : ℕ) → j ≤ length (put before x ys) → Parted before x (put before x ys) j → (remove (put before x ys) j ≡ ys) × (j < length (put before x ys)))
          → (t : Bool) → before y x ≡ t → (i : ℕ) → i ≤ length (cond t (y ∷ put before x ys) (x ∷ y ∷ ys)) → Parted before x (cond t (y ∷ put before x ys) (x ∷ y ∷ ys)) i
          → (remove (cond t (y ∷ put before x ys) (x ∷ y ∷ ys)) i ≡ y ∷ ys) × (i < length (cond t (y ∷ put before x ys) (x ∷ y ∷ ys)))
      go ih true e zero b h = absurd (both_ways (before y x) (h.1 0 y (omega arith) (omega arith)) e)
      go ih true e (suc i) b h =
          let r : (remove (put before x ys) i ≡ ys) × (i < length (put before x ys)) = ih i (omega arith) (parted-rest x y (put before x ys) i h) in
          (ap (λ (zs : List X). y ∷ zs) r.0, omega (arith, r.1))
      go ih false e zero b h = (refl, omega arith)
      go ih false e (suc i) b h = absurd (both_ways (before x x) n (h.0 0 x (omega arith) (omega arith)))

  pub all-put : (P : X → Type 0) (x : X) (ys : List X) → P x → AllByRecursion P ys → AllByRecursion P (put before x ys)
  all-put P x [] p all = (p, tt)
  all-put P x (y ∷ ys) p all = go (all-put P x ys p all.1) (before y x)
    where
      go : AllByRecursion P (put before x ys) → (t : Bool) → AllByRecursion P (cond t (y ∷ put before x ys) (x ∷ y ∷ ys))
      go ih true = (all.0, ih)
      go ih false = (p, all)

-- inserting commutes with a map that keeps the order
pub map-put : {X Y : Type 0} (before : Y → Y → Bool) (f : X → Y) (x : X) (ys : List X) → map f (put (λ a b. before (f a) (f b)) x ys) ≡ put before (f x) (map f ys)
map-put {X} {Y} before f x [] = refl
map-put {X} {Y} before f x (y ∷ ys) = go (map-put before f x ys) (before (f y) (f x))
  where
    go : map f (put (λ a b. before (f a) (f b)) x ys) ≡ put before (f x) (map f ys) → (t : Bool) → map f (cond t (y ∷ put (λ a b. before (f a) (f b)) x ys) (x ∷ y ∷ ys)) ≡ cond t (f y ∷ put before (f x) (map f ys)) (f x ∷ f y ∷ map f ys)
    go ih true = ap (λ (zs : List Y). f y ∷ zs) ih
    go ih false = refl

-- an order in which no element is before itself or before one that is before it
module _ {X : Type 0} (before : X → X → Bool) (back : (a b : X) → before a b ≡ true → before b a ≡ false) (along : (a b c : X) → before b a ≡ false → before c b ≡ false → before c a ≡ false) where
  put-later : (a b : X) (ys : List X) → before a b ≡ true → put before b (put before a ys) ≡ put before a (put before b ys)
  put-later a b [] h = let k : before b a ≡ false = back a b h in simp (h, k)
  put-later a b (y ∷ ys) h = go (before y a) refl (before y b) refl (put-later a b ys h)
    where
      k : before b a ≡ false
      k = back a b h

      go : (t : Bool) → before y a ≡ t → (u : Bool) → before y b ≡ u → put before b (put before a ys) ≡ put before a (put before b ys) → put before b (put before a (y ∷ ys)) ≡ put before a (put before b (y ∷ ys))
      go true e true f ih = simp (e, f, ih)
      go false e true f ih = simp (e, f, h)
      go false e false f ih = simp (e, f, h, k)
      go true e false f ih = absurd (both_ways (before y a) (along a b y k f) e)

  -- the order in which two elements are inserted makes no difference
  pub put-put : (either : (a b : X) → before a b ≡ false → before b a ≡ false → a ≡ b) (a b : X) (ys : List X) → put before a (put before b ys) ≡ put before b (put before a ys)
  put-put either a b ys = go (before a b) refl (before b a) refl
    where
      go : (t : Bool) → before a b ≡ t → (u : Bool) → before b a ≡ u → put before a (put before b ys) ≡ put before b (put before a ys)
      go true e u f = sym (put-later a b ys e)
      go false e true f = put-later b a ys f
      go false e false f =
          let same : a ≡ b = either a b e f in
          subst (λ c. put before a (put before c ys) ≡ put before c (put before a ys)) same refl
