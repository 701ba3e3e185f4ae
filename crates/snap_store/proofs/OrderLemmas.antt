-- Lists in the order of a comparison: the place of an element, and the list after an edit there.
use Rattle.std.proofs.Common.{◌≡◌, ℕ, ◌<◌, ◌≤◌, zero, suc, Bool, true, false, cond, not, List, [], ◌∷◌, length, get_or, Option, Some, None, refl, sym, ap, ◌∙◌, arith, Ordering}
use Rattle.std.specs.declared.cmp.Ordering.TheVariants.{Less, Equal, Greater}
use Rattle.std.specs.Cmp.{IsTotalOrder}
use Rattle.std.specs.List.{filter, find, insert, remove}
use Rattle.std.specs.List.Sorted.{IsPartitionPoint, IsPartitionedBy}
use Rattle.std.specs.Option.{option_and_then, option_map, option_map_or}
use Rattle.std.specs.Ordering.{is_eq, is_lt, ordering_reverse}
use Rattle.std.specs.Prelude.{slice_get}
use Rattle.snap_store.specs.Ordered.{AllAfterBy, IsRisingBy, put_by}

lt-less : (o : Ordering) → is_lt o ≡ true → o ≡ Less
lt-less Less h = refl
lt-less Equal h = cc
lt-less Greater h = cc

lt-not-eq : (o : Ordering) → is_lt o ≡ true → is_eq o ≡ false
lt-not-eq Less h = refl
lt-not-eq Equal h = cc
lt-not-eq Greater h = cc

gt-reversed : (o : Ordering) → is_lt o ≡ false → is_eq o ≡ false → is_lt (ordering_reverse o) ≡ true
gt-reversed Less h k = cc
gt-reversed Equal h k = cc
gt-reversed Greater h k = refl

lt-reversed : (o : Ordering) → is_lt o ≡ true → (is_lt (ordering_reverse o) ≡ false) × (is_eq (ordering_reverse o) ≡ false)
lt-reversed Less h = (refl, refl)
lt-reversed Equal h = cc
lt-reversed Greater h = cc

module _ {A : Type 0} (R : A → A → Ordering) (total : IsTotalOrder R) where
  abbrev pub before : A → A → Bool
  before x y = is_lt (R x y)

  abbrev pub same : A → A → Bool
  same x y = is_eq (R x y)

  pub before-trans : (x y z : A) → before x y ≡ true → before y z ≡ true → before x z ≡ true
  before-trans x y z h k = ap is_lt (total.trans x y z (lt-less _ h) (lt-less _ k))

  other-before : (x y : A) → before x y ≡ false → same x y ≡ false → before y x ≡ true
  other-before x y h k = ap is_lt (total.antisymm y x) ∙ gt-reversed (R x y) h k

  not-back : (x y : A) → before x y ≡ true → (before y x ≡ false) × (same y x ≡ false)
  not-back x y h = let w = lt-reversed (R x y) h in (ap is_lt (total.antisymm y x) ∙ w.0, ap is_eq (total.antisymm y x) ∙ w.1)

  same-before : (x y z : A) → same x y ≡ true → before x z ≡ true → before y z ≡ true
  same-before x y z h k = go (R x y) refl h
    where
      go : (o : Ordering) → R x y ≡ o → is_eq o ≡ true → before y z ≡ true
      go Less e f = cc
      go Equal e f = ap is_lt (sym (total.congr x y z e)) ∙ k
      go Greater e f = cc

  -- the elements before place i come before the key, and the others don't
  abbrev pub Parted : A → List A → ℕ → Type 0
  Parted key xs i = IsPartitionPoint (λ x. is_lt (R x key) ≡ true) (λ x. is_lt (R x key) ≡ false) xs i

  parted-rest : (key x : A) (xs : List A) (i : ℕ) → Parted key (x ∷ xs) (suc i) → Parted key xs i
  parted-rest key x xs i h = (λ k d low high. h.0 (suc k) d (omega arith) (omega arith), λ k d low high. h.1 (suc k) d (omega arith) (omega arith))

  pub after-at : (x : A) (xs : List A) (k : ℕ) (d : A) → AllAfterBy R x xs → k < length xs → before x (get_or xs k d) ≡ true
  after-at x [] k d a h = absurd (omega arith)
  after-at x (y ∷ ys) zero d a h = a.0
  after-at x (y ∷ ys) (suc k) d a h = after-at x ys k d a.1 (omega arith)

  -- in a rising list the elements before a key come first
  pub rising-parted : (key : A) (xs : List A) → IsRisingBy R xs → IsPartitionedBy (λ x. is_lt (R x key)) xs
  rising-parted key [] r i j d le h b = absurd (omega arith)
  rising-parted key (x ∷ xs) r zero zero d le h b = b
  rising-parted key (x ∷ xs) r zero (suc j) d le h b = before-trans x (get_or xs j d) key (after-at x xs j d r.0 (omega arith)) b
  rising-parted key (x ∷ xs) r (suc i) zero d le h b = absurd (omega arith)
  rising-parted key (x ∷ xs) r (suc i) (suc j) d le h b = rising-parted key xs r.1 i j d (omega arith) (omega arith) b

  abbrev pub seek : A → List A → Option A
  seek key xs = find (λ y. is_eq (R y key)) xs

  abbrev pub rid : A → List A → List A
  rid key xs = filter (λ y. not (is_eq (R y key))) xs

  none-parts : (key x : A) (xs : List A) → seek key (x ∷ xs) ≡ None → (same x key ≡ false) × (seek key xs ≡ None)
  none-parts key x xs h = go (same x key) h
    where
      go : (t : Bool) → cond t (Some x) (seek key xs) ≡ None → (t ≡ false) × (seek key xs ≡ None)
      go true e = cc
      go false e = (refl, e)

  pub put-insert : (z : A) (xs : List A) (i : ℕ) → i ≤ length xs → Parted z xs i → seek z xs ≡ None → put_by R z xs ≡ insert xs i z
  put-insert z [] zero b h n = refl
  put-insert z [] (suc i) b h n = absurd (omega arith)
  put-insert z (x ∷ xs) zero b h n =
      ap (λ (t : Bool). cond t (z ∷ x ∷ xs) (x ∷ put_by R z xs)) (other-before x z (h.1 0 x (omega arith) (omega arith)) (none-parts z x xs n).0)
  put-insert z (x ∷ xs) (suc i) b h n =
      ap (λ (t : Bool). cond t (z ∷ x ∷ xs) (x ∷ put_by R z xs)) (not-back x z (h.0 0 x (omega arith) (omega arith))).0
      ∙ ap (λ (ys : List A). x ∷ ys) (put-insert z xs i (omega arith) (parted-rest z x xs i h) (none-parts z x xs n).1)

  -- nothing that comes after the key is the same
  none-after : (key : A) (xs : List A) → AllAfterBy R key xs → (seek key xs ≡ None) × (rid key xs ≡ xs)
  none-after key [] a = (refl, refl)
  none-after key (x ∷ xs) a =
      let w = none-after key xs a.1 in
      let f : same x key ≡ false = (not-back key x a.0).1 in (
        ap (λ (t : Bool). cond t (Some x) (seek key xs)) f ∙ w.0,
        ap (λ (t : Bool). cond (not t) (x ∷ rid key xs) (rid key xs)) f ∙ ap (λ (ys : List A). x ∷ ys) w.1,
      )

  after-trans : (x y : A) (xs : List A) → before x y ≡ true → AllAfterBy R y xs → AllAfterBy R x xs
  after-trans x y [] b a = tt
  after-trans x y (z ∷ zs) b a = (before-trans x y z b a.0, after-trans x y zs b a.1)

  after-same : (x y : A) (xs : List A) → same x y ≡ true → AllAfterBy R x xs → AllAfterBy R y xs
  after-same x y [] b a = tt
  after-same x y (z ∷ zs) b a = (same-before x y z b a.0, after-same x y zs b a.1)

  -- nothing is found past the last element
  pub seek-past : (key : A) (xs : List A) (i : ℕ) → length xs ≤ i → Parted key xs i → (seek key xs ≡ None) × (rid key xs ≡ xs)
  seek-past key [] i b h = (refl, refl)
  seek-past key (x ∷ xs) zero b h = absurd (omega arith)
  seek-past key (x ∷ xs) (suc i) b h =
      let w = seek-past key xs i (omega arith) (parted-rest key x xs i h) in
      let f : same x key ≡ false = lt-not-eq (R x key) (h.0 0 x (omega arith) (omega arith)) in (
        ap (λ (t : Bool). cond t (Some x) (seek key xs)) f ∙ w.0,
        ap (λ (t : Bool). cond (not t) (x ∷ rid key xs) (rid key xs)) f ∙ ap (λ (ys : List A). x ∷ ys) w.1,
      )

  -- the element found is the one at the place, if it is the same
  pub seek-at : (key : A) (xs : List A) (i : ℕ) (d : A) → IsRisingBy R xs → i < length xs → Parted key xs i
      → (seek key xs ≡ cond (same (get_or xs i d) key) (Some (get_or xs i d)) None) × (rid key xs ≡ cond (same (get_or xs i d) key) (remove xs i) xs)
  seek-at key [] i d r b h = absurd (omega arith)
  seek-at key (x ∷ xs) zero d r b h = go (same x key) refl
    where
      go : (t : Bool) → same x key ≡ t → (cond t (Some x) (seek key xs) ≡ cond t (Some x) None) × (cond (not t) (x ∷ rid key xs) (rid key xs) ≡ cond t xs (x ∷ xs))
      go true e = (refl, (none-after key xs (after-same x key xs e r.0)).1)
      go false e =
          let w = none-after key xs (after-trans key x xs (other-before x key (h.1 0 x (omega arith) (omega arith)) e) r.0) in
          (w.0, ap (λ (ys : List A). x ∷ ys) w.1)
  seek-at key (x ∷ xs) (suc i) d r b h =
      let w = seek-at key xs i d r.1 (omega arith) (parted-rest key x xs i h) in
      let f : same x key ≡ false = lt-not-eq (R x key) (h.0 0 x (omega arith) (omega arith)) in (
        ap (λ (t : Bool). cond t (Some x) (seek key xs)) f ∙ w.0,
        ap (λ (t : Bool). cond (not t) (x ∷ rid key xs) (rid key xs)) f ∙ ap (λ (ys : List A). x ∷ ys) w.1 ∙ split (same (get_or xs i d) key),
      )
    where
      split : (t : Bool) → x ∷ cond t (remove xs i) xs ≡ cond t (x ∷ remove xs i) (x ∷ xs)
      split true = refl
      split false = refl

  -- the index of the first that is the same
  abbrev pub index : A → List A → Option ℕ
  index key [] = None
  index key (x ∷ xs) = cond (same x key) (Some 0) (option_map suc (index key xs))

  index-after : (key : A) (xs : List A) → AllAfterBy R key xs → index key xs ≡ None
  index-after key [] a = refl
  index-after key (x ∷ xs) a = ap (λ (t : Bool). cond t (Some 0) (option_map suc (index key xs))) (not-back key x a.0).1 ∙ ap (option_map suc) (index-after key xs a.1)

  pub index-past : (key : A) (xs : List A) (i : ℕ) → length xs ≤ i → Parted key xs i → index key xs ≡ None
  index-past key [] i b h = refl
  index-past key (x ∷ xs) zero b h = absurd (omega arith)
  index-past key (x ∷ xs) (suc i) b h =
      ap (λ (t : Bool). cond t (Some 0) (option_map suc (index key xs))) (lt-not-eq (R x key) (h.0 0 x (omega arith) (omega arith)))
      ∙ ap (option_map suc) (index-past key xs i (omega arith) (parted-rest key x xs i h))

  pub index-at : (key : A) (xs : List A) (i : ℕ) (d : A) → IsRisingBy R xs → i < length xs → Parted key xs i → index key xs ≡ cond (same (get_or xs i d) key) (Some i) None
  index-at key [] i d r b h = absurd (omega arith)
  index-at key (x ∷ xs) zero d r b h = go (same x key) refl
    where
      go : (t : Bool) → same x key ≡ t → cond t (Some 0) (option_map suc (index key xs)) ≡ cond t (Some 0) None
      go true e = refl
      go false e = ap (option_map suc) (index-after key xs (after-trans key x xs (other-before x key (h.1 0 x (omega arith) (omega arith)) e) r.0))
  index-at key (x ∷ xs) (suc i) d r b h =
      ap (λ (t : Bool). cond t (Some 0) (option_map suc (index key xs))) (lt-not-eq (R x key) (h.0 0 x (omega arith) (omega arith)))
      ∙ ap (option_map suc) (index-at key xs i d r.1 (omega arith) (parted-rest key x xs i h)) ∙ split (same (get_or xs i d) key)
    where
      split : (t : Bool) → option_map suc (cond t (Some i) None) ≡ cond t (Some (suc i)) None
      split true = refl
      split false = refl

  pub seek-index : (key : A) (xs : List A) → seek key xs ≡ option_and_then (λ (at : ℕ). slice_get xs at) (index key xs)
  seek-index key [] = refl
  seek-index key (x ∷ xs) = go (same x key) (index key xs) (seek-index key xs)
    where
      go : (t : Bool) (o : Option ℕ) → seek key xs ≡ option_and_then (λ (at : ℕ). slice_get xs at) o → cond t (Some x) (seek key xs) ≡ option_and_then (λ (at : ℕ). slice_get (x ∷ xs) at) (cond t (Some 0) (option_map suc o))
      go true o h = refl
      go false None h = h
      go false (Some i) h = h

  -- in a rising list no other is the same
  pub rid-index : (key : A) (xs : List A) → IsRisingBy R xs → rid key xs ≡ option_map_or (λ (at : ℕ). remove xs at) (index key xs) xs
  rid-index key [] r = refl
  rid-index key (x ∷ xs) r = go (same x key) refl (index key xs) (rid-index key xs r.1)
    where
      go : (t : Bool) → same x key ≡ t → (o : Option ℕ) → rid key xs ≡ option_map_or (λ (at : ℕ). remove xs at) o xs
          → cond (not t) (x ∷ rid key xs) (rid key xs) ≡ option_map_or (λ (at : ℕ). remove (x ∷ xs) at) (cond t (Some 0) (option_map suc o)) (x ∷ xs)
      go true e o h = (none-after key xs (after-same x key xs e r.0)).1
      go false e None h = ap (λ (ys : List A). x ∷ ys) h
      go false e (Some i) h = ap (λ (ys : List A). x ∷ ys) h

  after-filter : (p : A → Bool) (x : A) (xs : List A) → AllAfterBy R x xs → AllAfterBy R x (filter p xs)
  after-filter p x [] a = tt
  after-filter p x (y ∷ ys) a = go (p y) (after-filter p x ys a.1)
    where
      go : (t : Bool) → AllAfterBy R x (filter p ys) → AllAfterBy R x (cond t (y ∷ filter p ys) (filter p ys))
      go true h = (a.0, h)
      go false h = h

  pub rising-filter : (p : A → Bool) (xs : List A) → IsRisingBy R xs → IsRisingBy R (filter p xs)
  rising-filter p [] r = tt
  rising-filter p (x ∷ xs) r = go (p x) (rising-filter p xs r.1)
    where
      go : (t : Bool) → IsRisingBy R (filter p xs) → IsRisingBy R (cond t (x ∷ filter p xs) (filter p xs))
      go true h = (after-filter p x xs r.0, h)
      go false h = h

  after-put : (x z : A) (xs : List A) → AllAfterBy R x xs → before x z ≡ true → AllAfterBy R x (put_by R z xs)
  after-put x z [] a b = (b, tt)
  after-put x z (y ∷ ys) a b = go (before z y) (after-put x z ys a.1 b)
    where
      go : (t : Bool) → AllAfterBy R x (put_by R z ys) → AllAfterBy R x (cond t (z ∷ y ∷ ys) (y ∷ put_by R z ys))
      go true h = (b, (a.0, a.1))
      go false h = (a.0, h)

  pub rising-put : (z : A) (xs : List A) → IsRisingBy R xs → seek z xs ≡ None → IsRisingBy R (put_by R z xs)
  rising-put z [] r n = (tt, tt)
  rising-put z (x ∷ xs) r n = go (before z x) refl (rising-put z xs r.1 (none-parts z x xs n).1)
    where
      go : (t : Bool) → before z x ≡ t → IsRisingBy R (put_by R z xs) → IsRisingBy R (cond t (z ∷ x ∷ xs) (x ∷ put_by R z xs))
      go true e i = ((e, after-trans z x xs e r.0), (r.0, r.1))
      go false e i = (after-put x z xs r.0 (later (R x z) refl (none-parts z x xs n).0), i)
        where
          later : (o : Ordering) → R x z ≡ o → is_eq o ≡ false → before x z ≡ true
          later Less f g = ap is_lt f
          later Equal f g = cc
          later Greater f g = let k : before z x ≡ true = ap is_lt (total.antisymm z x ∙ ap ordering_reverse f) in cc
