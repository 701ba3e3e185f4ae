-- Snapshots and ids in their order.
use Rattle.std.proofs.Common.{◌≡◌, ℕ, ◌<◌, ◌≤◌, zero, suc, Bool, true, false, cond, not, ◌&&◌, ◌||◌, List, [], ◌∷◌, length, get_or, Option, Some, None, is_some, refl, sym, ap, ◌∙◌, arith, Ordering}
use Rattle.std.specs.Prelude.{◌==◌, nat_lt, slice_get}
use Rattle.std.specs.declared.cmp.Ordering.TheVariants.{Less, Equal, Greater}
use Rattle.std.specs.Cmp.{IsTotalOrder}
use Rattle.std.specs.List.{filter, find, remove}
use Rattle.std.specs.List.Sorted.{IsNonDecreasingBy, IsPartitionPoint, IsPartitionedBy}
use Rattle.std.specs.Option.{option_and_then, option_map, option_map_or}
use Rattle.std.specs.Ordering.{is_eq, is_lt, nat_cmp, ordering_then}
use Rattle.std.specs.Cmp.Lexicographic.{slice_cmp}
use Rattle.std.proofs.lemmas.Bool.Decides.{nat_tests}
use Rattle.std.proofs.lemmas.Cmp.{nat_cmp_total, nat_list_cmp_total, on_total, then_total}
use Rattle.std.proofs.lemmas.Map.Text.{is_eq-slice_cmp}
use Rattle.snap_store.specs.Ordered.{IsRisingBy}
use Rattle.snap_store.specs.Snapshots.{Snapshot, is_among, is_named, key_of, snapshot_cmp, snapshot_named, without_id, without_snapshot}
use Rattle.snap_store.specs.Stored.{index_named}
use Rattle.snap_store.proofs.OrderLemmas.{Parted, after-at, index, index-at, index-past, rid, rid-index, rising-parted, seek, seek-at, seek-index, seek-past}

pub snapshot-total : IsTotalOrder snapshot_cmp
snapshot-total = then_total (on_total (λ (s : Snapshot). s.dir) nat_cmp_total) (on_total (λ (s : Snapshot). s.name) nat_list_cmp_total)

eq-cmp : (a b : ℕ) → is_eq (nat_cmp a b) ≡ (a == b)
eq-cmp a b = grind (arith, nat_tests)

eq-then : (o r : Ordering) → is_eq (ordering_then o r) ≡ (is_eq o && is_eq r)
eq-then Less r = refl
eq-then Equal r = refl
eq-then Greater r = refl

-- of the directory, with the name
pub named-is : (dir : ℕ) (name : List ℕ) (s : Snapshot) → is_named dir name s ≡ is_eq (snapshot_cmp s (key_of dir name))
named-is dir name s =
    sym (eq-then (nat_cmp s.dir dir) (slice_cmp nat_cmp s.name name)
    ∙ ap (λ (b : Bool). b && is_eq (slice_cmp nat_cmp s.name name)) (eq-cmp s.dir dir)
    ∙ ap (λ (b : Bool). s.dir == dir && b) (is_eq-slice_cmp s.name name))

pub named-sought : (xs : List Snapshot) (dir : ℕ) (name : List ℕ) → snapshot_named xs dir name ≡ seek snapshot_cmp snapshot-total (key_of dir name) xs
named-sought xs dir name = λ i. find (λ s. named-is dir name s i) xs

without-rid : (xs : List Snapshot) (dir : ℕ) (name : List ℕ) → without_snapshot xs dir name ≡ rid snapshot_cmp snapshot-total (key_of dir name) xs
without-rid xs dir name = λ i. filter (λ s. not (named-is dir name s i)) xs

index-sought : (xs : List Snapshot) (dir : ℕ) (name : List ℕ) → index_named xs dir name ≡ index snapshot_cmp snapshot-total (key_of dir name) xs
index-sought [] dir name = refl
index-sought (x ∷ xs) dir name = λ i. cond (named-is dir name x i) (Some 0) (option_map suc (index-sought xs dir name i))

-- the snapshot at the index
pub named-index : (xs : List Snapshot) (dir : ℕ) (name : List ℕ) → snapshot_named xs dir name ≡ option_and_then (λ (at : ℕ). slice_get xs at) (index_named xs dir name)
named-index xs dir name = named-sought xs dir name ∙ seek-index snapshot_cmp snapshot-total (key_of dir name) xs ∙ ap (option_and_then (λ (at : ℕ). slice_get xs at)) (sym (index-sought xs dir name))

pub without-index : (xs : List Snapshot) (dir : ℕ) (name : List ℕ) → IsRisingBy snapshot_cmp xs → without_snapshot xs dir name ≡ option_map_or (λ (at : ℕ). remove xs at) (index_named xs dir name) xs
without-index xs dir name r = without-rid xs dir name ∙ rid-index snapshot_cmp snapshot-total (key_of dir name) xs r ∙ ap (λ (o : Option ℕ). option_map_or (λ (at : ℕ). remove xs at) o xs) (sym (index-sought xs dir name))

-- the index is the place at which the snapshot is sought
module _ (xs : List Snapshot) (dir : ℕ) (name : List ℕ) (i : ℕ) (r : IsRisingBy snapshot_cmp xs) (h : Parted snapshot_cmp snapshot-total (key_of dir name) xs i) where
  pub missing : length xs ≤ i → index_named xs dir name ≡ None
  missing b = index-sought xs dir name ∙ index-past snapshot_cmp snapshot-total (key_of dir name) xs i b h

  pub here : (x : Snapshot) (o : Ordering) → i < length xs → x ≡ get_or xs i x → o ≡ snapshot_cmp x (key_of dir name) → index_named xs dir name ≡ cond (is_eq o) (Some i) None
  here x o b e f =
      let g : is_eq (snapshot_cmp (get_or xs i x) (key_of dir name)) ≡ is_eq o = ap (λ (s : Snapshot). is_eq (snapshot_cmp s (key_of dir name))) (sym e) ∙ ap is_eq (sym f) in
      index-sought xs dir name ∙ index-at snapshot_cmp snapshot-total (key_of dir name) xs i x r b h ∙ ap (λ (b : Bool). cond b (Some i) None) g

eq-turned : (a b : ℕ) → (a == b) ≡ is_eq (nat_cmp a b)
eq-turned a b = grind (arith, nat_tests)

pub among-sought : (xs : List ℕ) (id : ℕ) → is_among xs id ≡ is_some (seek nat_cmp nat_cmp_total id xs)
among-sought [] id = refl
among-sought (x ∷ xs) id = ap (λ (b : Bool). b || is_among xs id) (eq-turned x id) ∙ go (is_eq (nat_cmp x id)) (among-sought xs id)
  where
    go : (t : Bool) → is_among xs id ≡ is_some (seek nat_cmp nat_cmp_total id xs) → (t || is_among xs id) ≡ is_some (cond t (Some x) (seek nat_cmp nat_cmp_total id xs))
    go true h = refl
    go false h = h

rest-rid : (xs : List ℕ) (id : ℕ) → without_id id xs ≡ rid nat_cmp nat_cmp_total id xs
rest-rid xs id = λ i. filter (λ x. not (eq-turned x id i)) xs

lt-cmp : (a b : ℕ) → nat_lt a b ≡ is_lt (nat_cmp a b)
lt-cmp a b = grind (arith, nat_tests)

-- the place at which an id is found
module _ (xs : List ℕ) (id i : ℕ) (r : IsRisingBy nat_cmp xs) (p : IsPartitionPoint (λ x. nat_lt x id ≡ true) (λ x. nat_lt x id ≡ false) xs i) where
  pub id-parted : Parted nat_cmp nat_cmp_total id xs i
  id-parted = (λ k d low high. sym (lt-cmp (get_or xs k d) id) ∙ p.0 k d low high, λ k d low high. sym (lt-cmp (get_or xs k d) id) ∙ p.1 k d low high)

  pub id-missing : length xs ≤ i → (is_among xs id ≡ false) × (without_id id xs ≡ xs)
  id-missing b = let w = seek-past nat_cmp nat_cmp_total id xs i b id-parted in (among-sought xs id ∙ ap is_some w.0, rest-rid xs id ∙ w.1)

  pub id-here : (t : Bool) → i < length xs → (get_or xs i 0 == id) ≡ t → (is_among xs id ≡ t) × (without_id id xs ≡ cond t (remove xs i) xs)
  id-here t b e =
      let w = seek-at nat_cmp nat_cmp_total id xs i 0 r b id-parted in
      let g : is_eq (nat_cmp (get_or xs i 0) id) ≡ t = eq-cmp (get_or xs i 0) id ∙ e in (
        among-sought xs id ∙ ap is_some (w.0 ∙ ap (λ (b : Bool). cond b (Some (get_or xs i 0)) None) g) ∙ some-if t,
        rest-rid xs id ∙ w.1 ∙ ap (λ (b : Bool). cond b (remove xs i) xs) g,
      )
    where
      some-if : (t : Bool) → is_some (cond t (Some (get_or xs i 0)) None) ≡ t
      some-if true = refl
      some-if false = refl

low-high : (s t : Snapshot) → is_lt (snapshot_cmp s t) ≡ true → s.dir ≤ t.dir
low-high s t h = go (nat_cmp s.dir t.dir) refl h
  where
    le-from : (a b : ℕ) → is_lt (nat_cmp a b) ≡ true → a ≤ b
    le-from a b e = grind (arith, nat_tests)

    eq-from : (a b : ℕ) → is_eq (nat_cmp a b) ≡ true → a ≤ b
    eq-from a b e = grind (arith, nat_tests)

    go : (o : Ordering) → nat_cmp s.dir t.dir ≡ o → is_lt (ordering_then o (slice_cmp nat_cmp s.name t.name)) ≡ true → s.dir ≤ t.dir
    go Less e f = le-from s.dir t.dir (ap is_lt e)
    go Equal e f = eq-from s.dir t.dir (ap is_eq e)
    go Greater e f = cc

-- the directories' ids don't fall
pub dirs-rise : (xs : List Snapshot) → IsRisingBy snapshot_cmp xs → IsNonDecreasingBy (λ s. s.dir) xs
dirs-rise [] r i j d le h = absurd (omega arith)
dirs-rise (x ∷ xs) r zero zero d le h = omega arith
dirs-rise (x ∷ xs) r zero (suc j) d le h = low-high x (get_or xs j d) (after-at snapshot_cmp snapshot-total x xs j d r.0 (omega arith))
dirs-rise (x ∷ xs) r (suc i) zero d le h = absurd (omega arith)
dirs-rise (x ∷ xs) r (suc i) (suc j) d le h = dirs-rise xs r.1 i j d (omega arith) (omega arith)

-- in rising ids the lower ones come first
pub ids-parted : (xs : List ℕ) (id : ℕ) → IsRisingBy nat_cmp xs → IsPartitionedBy (λ x. nat_lt x id) xs
ids-parted xs id r i j d le h b = lt-cmp (get_or xs i d) id ∙ rising-parted nat_cmp nat_cmp_total id xs r i j d le h (sym (lt-cmp (get_or xs j d) id) ∙ b)
