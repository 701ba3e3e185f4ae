-- What is always true of the snapshots is true after each change.
use Rattle.std.proofs.Common.{◌≡◌, ℕ, ◌<◌, ◌≤◌, suc, Bool, true, false, cond, not, ◌&&◌, ◌||◌, List, [], ◌∷◌, length, Option, Some, None, is_some, refl, sym, ap, ◌∙◌, subst, arith}
use Rattle.std.specs.Prelude.{◌==◌, Result, Ok, Err, OnOk, OnErr}
use Rattle.std.specs.List.{AllByRecursion, filter, find, insert, list_all, list_any}
use Rattle.std.specs.Ordering.{is_lt, nat_cmp}
use Rattle.std.proofs.lemmas.Bool.Decides.{nat_tests}
use Rattle.std.specs.Str.{bytes_eq}
use Rattle.std.proofs.lemmas.Cmp.{nat_cmp_total}
use Rattle.std.proofs.lemmas.List.Elements.{All-filter, All-from_recursion, recursion_from_All}
use Rattle.std.proofs.lemmas.Slice.Eq.{bytes_eq-Decides}
use Rattle.std.specs.Option.{option_map_or}
use Rattle.std.proofs.lemmas.Bool.{or_right, and_from, not-true, and_parts}
use Rattle.inode_tree.specs.declared.rows.Row.{Row}
use Rattle.inode_tree.specs.Rows.{is_dir_at, row_at}
use Rattle.snap_store.specs.Ordered.{IsRisingBy, put_by}
use Rattle.snap_store.specs.Snapshots.{IsFrozenTree, IsSnapshots, Snapshot, count_of, is_among, is_named, is_of, key_of, put_snapshot, rows_in, snapshot_cmp, snapshot_named, with_id, without_id, without_snapshot}
use Rattle.snap_store.proofs.OrderLemmas.{Parted, put-insert, rising-filter, rising-put, seek}
use Rattle.snap_store.proofs.Taken.{among-sought, named-sought, snapshot-total}

none-from : {X : Type 0} (o : Option X) → is_some o ≡ false → o ≡ None
none-from None h = refl
none-from (Some x) h = cc

new-id : (ids : List ℕ) (id : ℕ) → is_among ids id ≡ false → seek nat_cmp nat_cmp_total id ids ≡ None
new-id ids id h = none-from (seek nat_cmp nat_cmp_total id ids) (sym (among-sought ids id) ∙ h)

-- an id that isn't among them is put in at its place
pub id-put : (ids : List ℕ) (id i : ℕ) → IsRisingBy nat_cmp ids → is_among ids id ≡ false → i ≤ length ids → Parted nat_cmp nat_cmp_total id ids i → (insert ids i id ≡ with_id id ids) × IsRisingBy nat_cmp (insert ids i id)
id-put ids id i r h b p =
    let e : put_by nat_cmp id ids ≡ insert ids i id = put-insert nat_cmp nat_cmp_total id ids i b p (new-id ids id h) in (
      sym (ap (λ (t : Bool). cond t ids (put_by nat_cmp id ids)) h ∙ e),
      subst (IsRisingBy nat_cmp) e (rising-put nat_cmp nat_cmp_total id ids r (new-id ids id h)),
    )

pub taken-put : (xs : List Snapshot) (s : Snapshot) (i : ℕ) → snapshot_named xs s.dir s.name ≡ None → i ≤ length xs → Parted snapshot_cmp snapshot-total s xs i → insert xs i s ≡ put_snapshot s xs
taken-put xs s i h b p = sym (put-insert snapshot_cmp snapshot-total s xs i b p (sym (named-sought xs s.dir s.name) ∙ h))

or-map : (a b c : Bool) → (b ≡ true → c ≡ true) → (a || b) ≡ true → (a || c) ≡ true
or-map true b c f h = refl
or-map false b c f h = f h

any-put : (p : ℕ → Bool) (z : ℕ) (xs : List ℕ) → list_any p xs ≡ true → list_any p (put_by nat_cmp z xs) ≡ true
any-put p z [] h = cc
any-put p z (x ∷ xs) h = go (is_lt (nat_cmp z x)) (any-put p z xs)
  where
    go : (t : Bool) → (list_any p xs ≡ true → list_any p (put_by nat_cmp z xs) ≡ true) → list_any p (cond t (z ∷ x ∷ xs) (x ∷ put_by nat_cmp z xs)) ≡ true
    go true ih = or_right (p z) (p x || list_any p xs) h
    go false ih = or-map (p x) (list_any p xs) (list_any p (put_by nat_cmp z xs)) ih h

among-with : (x id : ℕ) (ids : List ℕ) → is_among ids x ≡ true → is_among (with_id id ids) x ≡ true
among-with x id ids h = go (is_among ids id)
  where
    go : (t : Bool) → is_among (cond t ids (put_by nat_cmp id ids)) x ≡ true
    go true = h
    go false = any-put (λ i. i == x) id ids h

among-kept : (p : ℕ → Bool) (x : ℕ) (ids : List ℕ) → p x ≡ false → is_among ids x ≡ true → is_among (filter (λ i. not (p i)) ids) x ≡ true
among-kept p x [] e h = cc
among-kept p x (y ∷ ys) e h = go (p y) refl (y == x) refl (among-kept p x ys e) h
  where
    same : (a b : ℕ) → (a == b) ≡ true → a ≡ b
    same a b h = grind (arith, nat_tests)

    go : (t : Bool) → p y ≡ t → (u : Bool) → (y == x) ≡ u → (is_among ys x ≡ true → is_among (filter (λ i. not (p i)) ys) x ≡ true) → (u || is_among ys x) ≡ true
        → is_among (cond (not t) (y ∷ filter (λ i. not (p i)) ys) (filter (λ i. not (p i)) ys)) x ≡ true
    go true f true g ih k = let m : p x ≡ true = subst (λ (i : ℕ). p i ≡ true) (same y x g) f in cc
    go true f false g ih k = ih k
    go false f true g ih k = ap (λ (b : Bool). b || is_among (filter (λ i. not (p i)) ys) x) g
    go false f false g ih k = or_right (y == x) (is_among (filter (λ i. not (p i)) ys) x) (ih k)

all-from : (p q : Snapshot → Bool) (xs : List Snapshot) → ((x : Snapshot) → p x ≡ true → q x ≡ true) → list_all p xs ≡ true → list_all q xs ≡ true
all-from p q [] f h = refl
all-from p q (x ∷ xs) f h = let w = and_parts (p x) (list_all p xs) h in and_from (q x) (list_all q xs) (f x w.0) (all-from p q xs f w.1)

all-put : (p : Snapshot → Bool) (z : Snapshot) (xs : List Snapshot) → p z ≡ true → list_all p xs ≡ true → list_all p (put_snapshot z xs) ≡ true
all-put p z [] e h = and_from (p z) true e refl
all-put p z (x ∷ xs) e h = go (is_lt (snapshot_cmp z x)) (and_parts (p x) (list_all p xs) h) (all-put p z xs e)
  where
    go : (t : Bool) → (p x ≡ true) × (list_all p xs ≡ true) → (list_all p xs ≡ true → list_all p (put_snapshot z xs) ≡ true) → list_all p (cond t (z ∷ x ∷ xs) (x ∷ put_snapshot z xs)) ≡ true
    go true w ih = and_from (p z) (p x && list_all p xs) e h
    go false w ih = and_from (p x) (list_all p (put_snapshot z xs)) w.0 (ih w.1)

each-put : (P : Snapshot → Type 0) (z : Snapshot) (xs : List Snapshot) → P z → AllByRecursion P xs → AllByRecursion P (put_snapshot z xs)
each-put P z [] e h = (e, tt)
each-put P z (x ∷ xs) e h = go (is_lt (snapshot_cmp z x)) (each-put P z xs e h.1)
  where
    go : (t : Bool) → AllByRecursion P (put_snapshot z xs) → AllByRecursion P (cond t (z ∷ x ∷ xs) (x ∷ put_snapshot z xs))
    go true ih = (e, h)
    go false ih = (h.0, ih)

-- the row of the directory itself is there
own-row : (t : Snapshot) → IsFrozenTree t.rows → is_some (row_at t.rows []) ≡ true
own-row t tree = go (row_at t.rows []) tree.rooted
  where
    go : (o : Option Row) → is_dir_at o ≡ true → is_some o ≡ true
    go None h = cc
    go (Some row) h = refl

all-filter : (p q : Snapshot → Bool) (xs : List Snapshot) → list_all p xs ≡ true → list_all p (filter q xs) ≡ true
all-filter p q [] h = refl
all-filter p q (x ∷ xs) h = go (q x) (and_parts (p x) (list_all p xs) h) (all-filter p q xs)
  where
    go : (t : Bool) → (p x ≡ true) × (list_all p xs ≡ true) → (list_all p xs ≡ true → list_all p (filter q xs) ≡ true) → list_all p (cond t (x ∷ filter q xs) (filter q xs)) ≡ true
    go true w ih = and_from (p x) (list_all p (filter q xs)) w.0 (ih w.1)
    go false w ih = ih w.1

count-head : (x : Snapshot) (xs : List Snapshot) (dir : ℕ) → count_of (x ∷ xs) dir ≡ cond (x.dir == dir) (suc (count_of xs dir)) (count_of xs dir)
count-head x xs dir = go (x.dir == dir)
  where
    go : (t : Bool) → length (cond t (x ∷ filter (is_of dir) xs) (filter (is_of dir) xs)) ≡ cond t (suc (length (filter (is_of dir) xs))) (length (filter (is_of dir) xs))
    go true = refl
    go false = refl

count-put : (z : Snapshot) (xs : List Snapshot) (dir : ℕ) → count_of (put_snapshot z xs) dir ≡ cond (z.dir == dir) (suc (count_of xs dir)) (count_of xs dir)
count-put z [] dir = count-head z [] dir
count-put z (x ∷ xs) dir = go (is_lt (snapshot_cmp z x)) (count-put z xs dir)
  where
    swap : (u v : Bool) (n : ℕ) → cond u (suc (cond v (suc n) n)) (cond v (suc n) n) ≡ cond v (suc (cond u (suc n) n)) (cond u (suc n) n)
    swap true true n = refl
    swap true false n = refl
    swap false true n = refl
    swap false false n = refl

    go : (t : Bool) → count_of (put_snapshot z xs) dir ≡ cond (z.dir == dir) (suc (count_of xs dir)) (count_of xs dir) → count_of (cond t (z ∷ x ∷ xs) (x ∷ put_snapshot z xs)) dir ≡ cond (z.dir == dir) (suc (count_of (x ∷ xs) dir)) (count_of (x ∷ xs) dir)
    go true h = count-head z (x ∷ xs) dir
    go false h =
        count-head x (put_snapshot z xs) dir ∙ ap (λ (n : ℕ). cond (x.dir == dir) (suc n) n) h
        ∙ swap (x.dir == dir) (z.dir == dir) (count_of xs dir)
        ∙ ap (λ (n : ℕ). cond (z.dir == dir) (suc n) n) (sym (count-head x xs dir))

count-filter : (q : Snapshot → Bool) (xs : List Snapshot) (dir : ℕ) → count_of (filter q xs) dir ≤ count_of xs dir
count-filter q [] dir = omega arith
count-filter q (x ∷ xs) dir = go (q x) (x.dir == dir) (count-filter q xs dir)
  where
    step : (u : Bool) → length (filter (is_of dir) (filter q xs)) ≤ length (filter (is_of dir) xs) → length (cond u (x ∷ filter (is_of dir) (filter q xs)) (filter (is_of dir) (filter q xs))) ≤ length (cond u (x ∷ filter (is_of dir) xs) (filter (is_of dir) xs))
    step true h = omega arith
    step false h = h

    skip : (u : Bool) → length (filter (is_of dir) (filter q xs)) ≤ length (filter (is_of dir) xs) → length (filter (is_of dir) (filter q xs)) ≤ length (cond u (x ∷ filter (is_of dir) xs) (filter (is_of dir) xs))
    skip true h = omega arith
    skip false h = h

    go : (t u : Bool) → length (filter (is_of dir) (filter q xs)) ≤ length (filter (is_of dir) xs) → length (filter (is_of dir) (cond t (x ∷ filter q xs) (filter q xs))) ≤ length (filter (is_of dir) (x ∷ xs))
    go true u h = step (x.dir == dir) h
    go false u h = skip (x.dir == dir) h

-- none of a directory
none-of : (xs : List Snapshot) (dir : ℕ) → count_of xs dir ≡ 0 → list_any (λ s. s.dir == dir) xs ≡ false
none-of [] dir h = refl
none-of (x ∷ xs) dir h = go (x.dir == dir) h (none-of xs dir)
  where
    go : (t : Bool) → length (cond t (x ∷ filter (is_of dir) xs) (filter (is_of dir) xs)) ≡ 0 → (count_of xs dir ≡ 0 → list_any (λ s. s.dir == dir) xs ≡ false) → (t || list_any (λ s. s.dir == dir) xs) ≡ false
    go true f ih = absurd (omega arith)
    go false f ih = ih f

none-any : (p : Snapshot → Bool) (xs : List Snapshot) → list_any p xs ≡ false → list_all (λ s. not (p s)) xs ≡ true
none-any p [] h = refl
none-any p (x ∷ xs) h = go (p x) h (none-any p xs)
  where
    go : (t : Bool) → (t || list_any p xs) ≡ false → (list_any p xs ≡ false → list_all (λ s. not (p s)) xs ≡ true) → (not t && list_all (λ s. not (p s)) xs) ≡ true
    go true f ih = cc
    go false f ih = ih f

all-both : (p q : Snapshot → Bool) (xs : List Snapshot) → list_all p xs ≡ true → list_all q xs ≡ true → list_all (λ s. p s && q s) xs ≡ true
all-both p q [] h k = refl
all-both p q (x ∷ xs) h k =
    let v = and_parts (p x) (list_all p xs) h in
    let w = and_parts (q x) (list_all q xs) k in
    and_from (p x && q x) (list_all (λ s. p s && q s) xs) (and_from (p x) (q x) v.0 w.0) (all-both p q xs v.1 w.1)

-- a change that a result speaks of, or none
either : {A E X : Type 0} (P : X → Type 0) (r : Result A E) (new changed old : X) → OnOk r (new ≡ changed) → OnErr r (new ≡ old) → P changed → P old → P new
either P (Ok a) new changed old h k p q = subst P (sym h) p
either P (Err e) new changed old h k p q = subst P (sym k) q

find-all : (p q : Snapshot → Bool) (xs : List Snapshot) (x : Snapshot) → list_all p xs ≡ true → find q xs ≡ Some x → p x ≡ true
find-all p q [] x h e = cc
find-all p q (y ∷ ys) x h e = go (q y) (and_parts (p y) (list_all p ys) h) e (find-all p q ys x)
  where
    go : (t : Bool) → (p y ≡ true) × (list_all p ys ≡ true) → cond t (Some y) (find q ys) ≡ Some x → (list_all p ys ≡ true → find q ys ≡ Some x → p x ≡ true) → p x ≡ true
    go true w f ih = let g : y ≡ x = cc in subst (λ (z : Snapshot). p z ≡ true) g w.0
    go false w f ih = ih w.1 f

-- a snapshot exists exactly if it has the directory's own row
pub named-look : (xs : List Snapshot) (dir : ℕ) (name : List ℕ) → list_all (λ t. is_some (row_at t.rows [])) xs ≡ true → is_some (row_at (rows_in xs dir name) []) ≡ is_some (snapshot_named xs dir name)
named-look xs dir name h = go (snapshot_named xs dir name) refl
  where
    go : (o : Option Snapshot) → snapshot_named xs dir name ≡ o → is_some (row_at (option_map_or (λ s. s.rows) o []) []) ≡ is_some o
    go None e = refl
    go (Some x) e = find-all (λ t. is_some (row_at t.rows [])) (is_named dir name) xs x h e

module _ (ids : List ℕ) (xs : List Snapshot) (s : IsSnapshots ids xs) where
  pub kept-allow : {A E : Type 0} (r : Result A E) (id : ℕ) (new : List ℕ) → IsRisingBy nat_cmp new → OnOk r (new ≡ with_id id ids) → OnErr r (new ≡ ids) → IsSnapshots new xs
  kept-allow r id new rising h k = record {
    ids = rising;
    order = s.order;
    rooted = s.rooted;
    trees = s.trees;
    housed = either (λ (is : List ℕ). list_all (λ t. is_among is t.dir) xs ≡ true) r new (with_id id ids) ids h k (all-from (λ t. is_among ids t.dir) (λ t. is_among (with_id id ids) t.dir) xs (λ x. among-with x.dir id ids) s.housed) s.housed;
    few = s.few;
  }

  -- directories that have no snapshots are taken out
  pub kept-without : (p : ℕ → Bool) → list_any (λ t. p t.dir) xs ≡ false → IsSnapshots (filter (λ i. not (p i)) ids) xs
  kept-without p h = record {
    ids = rising-filter nat_cmp nat_cmp_total (λ i. not (p i)) ids s.ids;
    order = s.order;
    rooted = s.rooted;
    trees = s.trees;
    housed = all-from (λ t. not (p t.dir) && is_among ids t.dir) (λ t. is_among (filter (λ i. not (p i)) ids) t.dir) xs
        (λ x b. let w = and_parts (not (p x.dir)) (is_among ids x.dir) b in among-kept p x.dir ids (not-true (p x.dir) w.0) w.1)
        (all-both (λ t. not (p t.dir)) (λ t. is_among ids t.dir) xs (none-any (λ t. p t.dir) xs h) s.housed);
    few = s.few;
  }

  pub kept-disallow : (id : ℕ) → count_of xs id ≡ 0 → IsSnapshots (without_id id ids) xs
  kept-disallow id h = kept-without (λ i. i == id) (none-of xs id h)

  pub kept-remove : (dir : ℕ) (name : List ℕ) → IsSnapshots ids (without_snapshot xs dir name)
  kept-remove dir name = record {
    ids = s.ids;
    order = rising-filter snapshot_cmp snapshot-total (λ t. not (is_named dir name t)) xs s.order;
    housed = all-filter (λ t. is_among ids t.dir) (λ t. not (is_named dir name t)) xs s.housed;
    rooted = all-filter (λ t. is_some (row_at t.rows [])) (λ t. not (is_named dir name t)) xs s.rooted;
    trees = All-filter (λ t. not (is_named dir name t)) (λ t. IsFrozenTree t.rows) xs s.trees;
    few = λ d. let a = count-filter (λ t. not (is_named dir name t)) xs d in let b = s.few d in omega arith;
  }

  pub put-kept : (t : Snapshot) → is_among ids t.dir ≡ true → snapshot_named xs t.dir t.name ≡ None → count_of xs t.dir < 65536 → IsFrozenTree t.rows → IsSnapshots ids (put_snapshot t xs)
  put-kept t h n b tree = record {
    ids = s.ids;
    order = rising-put snapshot_cmp snapshot-total t xs s.order (sym (named-sought xs t.dir t.name) ∙ n);
    housed = all-put (λ u. is_among ids u.dir) t xs h s.housed;
    rooted = all-put (λ u. is_some (row_at u.rows [])) t xs (own-row t tree) s.rooted;
    trees = All-from_recursion (λ u. IsFrozenTree u.rows) (put_snapshot t xs) (each-put (λ u. IsFrozenTree u.rows) t xs tree (recursion_from_All (λ u. IsFrozenTree u.rows) xs s.trees));
    few = λ d. go d (t.dir == d) refl (count-put t xs d);
  }
    where
      same : (a b : ℕ) → (a == b) ≡ true → a ≡ b
      same a b h = grind (arith, nat_tests)

      go : (d : ℕ) (u : Bool) → (t.dir == d) ≡ u → count_of (put_snapshot t xs) d ≡ cond u (suc (count_of xs d)) (count_of xs d) → count_of (put_snapshot t xs) d ≤ 65536
      go d true e f = let g : count_of xs d < 65536 = subst (λ (k : ℕ). count_of xs k < 65536) (same t.dir d e) b in omega arith
      go d false e f = let g = s.few d in omega arith

find-put : (q : Snapshot → Bool) (z : Snapshot) (xs : List Snapshot) → q z ≡ false → find q (put_snapshot z xs) ≡ find q xs
find-put q z [] e = ap (λ (t : Bool). cond t (Some z) None) e
find-put q z (x ∷ xs) e = go (is_lt (snapshot_cmp z x)) (find-put q z xs e)
  where
    go : (t : Bool) → find q (put_snapshot z xs) ≡ find q xs → find q (cond t (z ∷ x ∷ xs) (x ∷ put_snapshot z xs)) ≡ find q (x ∷ xs)
    go true h = ap (λ (u : Bool). cond u (Some z) (find q (x ∷ xs))) e
    go false h = ap (λ (o : Option Snapshot). cond (q x) (Some x) o) h

find-filter : (p q : Snapshot → Bool) (xs : List Snapshot) → ((x : Snapshot) → q x ≡ true → p x ≡ true) → find q (filter p xs) ≡ find q xs
find-filter p q [] f = refl
find-filter p q (x ∷ xs) f = go (p x) refl (q x) refl (find-filter p q xs f)
  where
    go : (t : Bool) → p x ≡ t → (u : Bool) → q x ≡ u → find q (filter p xs) ≡ find q xs → find q (cond t (x ∷ filter p xs) (filter p xs)) ≡ cond u (Some x) (find q xs)
    go true e u g h = ap (λ (b : Bool). cond b (Some x) (find q (filter p xs))) g ∙ ap (λ (o : Option Snapshot). cond u (Some x) o) h
    go false e true g h = let k : p x ≡ true = f x g in cc
    go false e false g h = h

-- a snapshot with another name, or of another directory
other : (dir : ℕ) (name : List ℕ) (d : ℕ) (n : List ℕ) (x : Snapshot) → is_named dir name (key_of d n) ≡ false → is_named d n x ≡ true → is_named dir name x ≡ false
other dir name d n x h e =
    let w = and_parts (x.dir == d) (bytes_eq x.name n) e in
    let i : d ≡ x.dir = same x.dir d w.0 in
    let j : n ≡ x.name = sym ((bytes_eq-Decides x.name n).0 w.1) in
    subst (λ (m : List ℕ). is_named dir name (key_of x.dir m) ≡ false) j (subst (λ (k : ℕ). is_named dir name (key_of k n) ≡ false) i h)
  where
    same : (a b : ℕ) → (a == b) ≡ true → b ≡ a
    same a b h = grind (arith, nat_tests)

own-name : (t : Snapshot) → is_named t.dir t.name t ≡ true
own-name t = and_from (t.dir == t.dir) (bytes_eq t.name t.name) (yes t.dir) ((bytes_eq-Decides t.name t.name).1 refl)
  where
    yes : (a : ℕ) → (a == a) ≡ true
    yes a = grind (arith, nat_tests)

pub others-remove : (xs : List Snapshot) (dir : ℕ) (name : List ℕ) (d : ℕ) (n : List ℕ) → is_named dir name (key_of d n) ≡ false → snapshot_named (without_snapshot xs dir name) d n ≡ snapshot_named xs d n
others-remove xs dir name d n h = find-filter (λ s. not (is_named dir name s)) (is_named d n) xs (λ x e. ap not (other dir name d n x h e))

pub others-put : (xs : List Snapshot) (t : Snapshot) (d : ℕ) (n : List ℕ) → is_named t.dir t.name (key_of d n) ≡ false → snapshot_named (put_snapshot t xs) d n ≡ snapshot_named xs d n
others-put xs t d n h = find-put (is_named d n) t xs (no (is_named d n t) refl)
  where
    no : (b : Bool) → is_named d n t ≡ b → b ≡ false
    no true e = let f : is_named t.dir t.name t ≡ false = other t.dir t.name d n t h e in let g = own-name t in cc
    no false e = refl

pub others-take : {A E : Type 0} (xs : List Snapshot) (r : Result A E) (t : Snapshot) (new : List Snapshot) → OnOk r (new ≡ put_snapshot t xs) → OnErr r (new ≡ xs)
    → (d : ℕ) (n : List ℕ) → is_named t.dir t.name (key_of d n) ≡ false → snapshot_named new d n ≡ snapshot_named xs d n
others-take xs r t new ok err d n h = either (λ (ys : List Snapshot). snapshot_named ys d n ≡ snapshot_named xs d n) r new (put_snapshot t xs) xs ok err (others-put xs t d n h) refl
