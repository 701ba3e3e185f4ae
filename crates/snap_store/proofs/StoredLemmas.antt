-- Snapshots by their keys and their roots.
use Rattle.std.proofs.Common.{◌≡◌, ℕ, ◌<◌, ◌≤◌, zero, suc, Bool, true, false, cond, ◌||◌, List, [], ◌∷◌, length, get_or, map, Option, Some, None, is_some, refl, sym, ap, ◌∙◌, arith}
use Rattle.std.specs.Prelude.{Result, Ok, Err, OnErr, is_ok, slice_get}
use Rattle.std.specs.List.{filter, insert, remove}
use Rattle.std.specs.Option.{option_and_then, option_map, option_map_or}
use Rattle.std.specs.Ordering.{is_lt}
use Rattle.frozen_nodes.specs.Forest.{AreBelow, FrozenNode, KeepsNodes, rows_from}
use Rattle.frozen_nodes.specs.Moves.{AllMoved}
use Rattle.inode_tree.specs.Rows.{Entry}
use Rattle.inode_tree.specs.Below.{at_or_below}
use Rattle.snap_store.specs.Ordered.{AllAfterBy, IsRisingBy}
use Rattle.snap_store.specs.Snapshots.{Snapshot, count_of, holds_snapshot, is_named, is_of, key_of, names_of, put_snapshot, rows_in, snapshot_cmp, snapshot_named, without_snapshot}
use Rattle.snap_store.specs.Stored.{index_named, snapshots_of}
use Rattle.snap_store.proofs.Kept.{taken-put}
use Rattle.snap_store.proofs.OrderLemmas.{Parted}
use Rattle.snap_store.proofs.Taken.{named-index, snapshot-total, without-index}

-- an edit in memory that was reserved
pub sure : {A E X : Type 0} (r : Result A E) (new changed old : X) (room len : ℕ) → new ≡ cond (is_ok r) changed old → OnErr r (room ≤ len) → len < room → new ≡ changed
sure (Ok a) new changed old room len h full lt = h
sure (Err e) new changed old room len h full lt = absurd (omega (arith, full, lt))

-- roots that are among the nodes

pub below-at : (n : ℕ) (rs : List ℕ) (k d : ℕ) → AreBelow n rs → k < length rs → get_or rs k d < n
below-at n [] k d b lt = absurd (omega arith)
below-at n (r ∷ rs) zero d b lt = b.0
below-at n (r ∷ rs) (suc k) d b lt = below-at n rs k d b.1 (omega arith)

pub below-insert : (n : ℕ) (rs : List ℕ) (i r : ℕ) → r < n → AreBelow n rs → AreBelow n (insert rs i r)
below-insert n [] zero r lt b = (lt, tt)
below-insert n [] (suc i) r lt b = (lt, tt)
below-insert n (x ∷ rs) zero r lt b = (lt, b)
below-insert n (x ∷ rs) (suc i) r lt b = (b.0, below-insert n rs i r lt b.1)

pub below-remove : (n : ℕ) (rs : List ℕ) (i : ℕ) → AreBelow n rs → AreBelow n (remove rs i)
below-remove n [] zero b = tt
below-remove n [] (suc i) b = tt
below-remove n (x ∷ rs) zero b = b.1
below-remove n (x ∷ rs) (suc i) b = (b.0, below-remove n rs i b.1)

pub below-more : (n m : ℕ) (rs : List ℕ) → n ≤ m → AreBelow n rs → AreBelow m rs
below-more n m [] le b = tt
below-more n m (r ∷ rs) le b = (let lt = b.0 in omega arith, below-more n m rs le b.1)

pub below-moved : (old new : List FrozenNode) (rs qs : List ℕ) → AllMoved old new rs qs → AreBelow (length new) qs
below-moved old new [] [] a = tt
below-moved old new [] (q ∷ qs) a = absurd a
below-moved old new (r ∷ rs) [] a = tt
below-moved old new (r ∷ rs) (q ∷ qs) a = (a.0.within, below-moved old new rs qs a.1)

pub moved-count : (old new : List FrozenNode) (rs qs : List ℕ) → AllMoved old new rs qs → length qs ≡ length rs
moved-count old new [] [] a = refl
moved-count old new [] (q ∷ qs) a = absurd a
moved-count old new (r ∷ rs) [] a = absurd a
moved-count old new (r ∷ rs) (q ∷ qs) a = ap suc (moved-count old new rs qs a.1)

-- snapshots stay as long as their roots keep their rows

same-kept : (old new : List FrozenNode) (xs : List Snapshot) (rs : List ℕ) → KeepsNodes old new → AreBelow (length old) rs → snapshots_of new xs rs ≡ snapshots_of old xs rs
same-kept old new [] rs k b = refl
same-kept old new (x ∷ xs) [] k b = refl
same-kept old new (x ∷ xs) (r ∷ rs) k b = λ i. record x { rows = k.rows r b.0 i } ∷ same-kept old new xs rs k b.1 i

pub same-moved : (old new : List FrozenNode) (xs : List Snapshot) (rs qs : List ℕ) → AllMoved old new rs qs → snapshots_of new xs qs ≡ snapshots_of old xs rs
same-moved old new [] rs qs a = refl
same-moved old new (x ∷ xs) [] [] a = refl
same-moved old new (x ∷ xs) [] (q ∷ qs) a = absurd a
same-moved old new (x ∷ xs) (r ∷ rs) [] a = absurd a
same-moved old new (x ∷ xs) (r ∷ rs) (q ∷ qs) a = λ i. record x { rows = a.0.rows i } ∷ same-moved old new xs rs qs a.1 i

-- a snapshot that is put in has its own rows, and the others keep theirs
pub put-taken : (old new : List FrozenNode) (xs ys : List Snapshot) (rs qs : List ℕ) (key : Snapshot) (dir : ℕ) (name : List ℕ) (root : ℕ) (rows : List Entry)
    → ys ≡ xs → qs ≡ rs → key ≡ key_of dir name → rows_from new root ≡ rows → KeepsNodes old new → AreBelow (length old) rs
    → put_snapshot (record { dir = key.dir; name = key.name; rows = rows_from new root }) (snapshots_of new ys qs) ≡ put_snapshot (record { dir = dir; name = name; rows = rows }) (snapshots_of old xs rs)
put-taken old new xs ys rs qs key dir name root rows e f g h keeps below =
    (λ i. put_snapshot (record { dir = (g i).dir; name = (g i).name; rows = h i }) (snapshots_of new (e i) (f i)))
    ∙ ap (put_snapshot (record { dir = dir; name = name; rows = rows })) (same-kept old new xs rs keeps below)

module _ (ns : List FrozenNode) where
  -- what depends on their keys alone

  index-same : (xs : List Snapshot) (rs : List ℕ) (dir : ℕ) (name : List ℕ) → length rs ≡ length xs → index_named (snapshots_of ns xs rs) dir name ≡ index_named xs dir name
  index-same [] rs dir name c = refl
  index-same (x ∷ xs) [] dir name c = absurd (omega arith)
  index-same (x ∷ xs) (r ∷ rs) dir name c = ap (λ (o : Option ℕ). cond (is_named dir name x) (Some 0) (option_map suc o)) (index-same xs rs dir name (omega arith))

  pub count-same : (xs : List Snapshot) (rs : List ℕ) (dir : ℕ) → length rs ≡ length xs → count_of xs dir ≡ count_of (snapshots_of ns xs rs) dir
  count-same [] rs dir c = refl
  count-same (x ∷ xs) [] dir c = absurd (omega arith)
  count-same (x ∷ xs) (r ∷ rs) dir c = go (is_of dir x) (count-same xs rs dir (omega arith))
    where
      go : (t : Bool) → count_of xs dir ≡ count_of (snapshots_of ns xs rs) dir
          → length (cond t (x ∷ filter (is_of dir) xs) (filter (is_of dir) xs)) ≡ length (cond t (record x { rows = rows_from ns r } ∷ filter (is_of dir) (snapshots_of ns xs rs)) (filter (is_of dir) (snapshots_of ns xs rs)))
      go true h = ap suc h
      go false h = h

  pub names-same : (xs : List Snapshot) (rs : List ℕ) (dir : ℕ) → length rs ≡ length xs → names_of xs dir ≡ names_of (snapshots_of ns xs rs) dir
  names-same [] rs dir c = refl
  names-same (x ∷ xs) [] dir c = absurd (omega arith)
  names-same (x ∷ xs) (r ∷ rs) dir c = go (is_of dir x) (names-same xs rs dir (omega arith))
    where
      go : (t : Bool) → names_of xs dir ≡ names_of (snapshots_of ns xs rs) dir
          → map (λ (s : Snapshot). s.name) (cond t (x ∷ filter (is_of dir) xs) (filter (is_of dir) xs)) ≡ map (λ (s : Snapshot). s.name) (cond t (record x { rows = rows_from ns r } ∷ filter (is_of dir) (snapshots_of ns xs rs)) (filter (is_of dir) (snapshots_of ns xs rs)))
      go true h = ap (λ (ys : List (List ℕ)). x.name ∷ ys) h
      go false h = h

  pub holds-same : (rows : List Entry) (xs : List Snapshot) (rs : List ℕ) (p : List (List ℕ)) → length rs ≡ length xs → holds_snapshot rows xs p ≡ holds_snapshot rows (snapshots_of ns xs rs) p
  holds-same rows [] rs p c = refl
  holds-same rows (x ∷ xs) [] p c = absurd (omega arith)
  holds-same rows (x ∷ xs) (r ∷ rs) p c = ap (λ (b : Bool). at_or_below rows x.dir p || b) (holds-same rows xs rs p (omega arith))

  -- the snapshot at an index
  pub at-same : (xs : List Snapshot) (rs : List ℕ) (at : ℕ) (x : Snapshot) (r : ℕ) → length rs ≡ length xs → at < length xs → x ≡ get_or xs at x → r ≡ get_or rs at r
      → slice_get (snapshots_of ns xs rs) at ≡ Some (record x { rows = rows_from ns r })
  at-same [] rs at x r c lt e f = absurd (omega arith)
  at-same (y ∷ xs) [] at x r c lt e f = absurd (omega arith)
  at-same (y ∷ xs) (q ∷ rs) zero x r c lt e f = λ i. Some (record (sym e i) { rows = rows_from ns (sym f i) })
  at-same (y ∷ xs) (q ∷ rs) (suc at) x r c lt e f = at-same xs rs at x r (omega arith) (omega arith) e f

  -- a name that is free
  pub free-key : (xs : List Snapshot) (rs : List ℕ) (dir : ℕ) (name : List ℕ) → length rs ≡ length xs → snapshot_named (snapshots_of ns xs rs) dir name ≡ None → snapshot_named xs dir name ≡ None
  free-key [] rs dir name c h = refl
  free-key (x ∷ xs) [] dir name c h = absurd (omega arith)
  free-key (x ∷ xs) (r ∷ rs) dir name c h = go (is_named dir name x) h (free-key xs rs dir name (omega arith))
    where
      go : (t : Bool) → cond t (Some (record x { rows = rows_from ns r })) (snapshot_named (snapshots_of ns xs rs) dir name) ≡ None → (snapshot_named (snapshots_of ns xs rs) dir name ≡ None → snapshot_named xs dir name ≡ None)
          → cond t (Some x) (snapshot_named xs dir name) ≡ None
      go true f ih = cc
      go false f ih = ih f

  pub free-snapshot : (xs : List Snapshot) (rs : List ℕ) (dir : ℕ) (name : List ℕ) → length rs ≡ length xs → snapshot_named xs dir name ≡ None → snapshot_named (snapshots_of ns xs rs) dir name ≡ None
  free-snapshot [] rs dir name c h = refl
  free-snapshot (x ∷ xs) [] dir name c h = absurd (omega arith)
  free-snapshot (x ∷ xs) (r ∷ rs) dir name c h = go (is_named dir name x) h (free-snapshot xs rs dir name (omega arith))
    where
      go : (t : Bool) → cond t (Some x) (snapshot_named xs dir name) ≡ None → (snapshot_named xs dir name ≡ None → snapshot_named (snapshots_of ns xs rs) dir name ≡ None)
          → cond t (Some (record x { rows = rows_from ns r })) (snapshot_named (snapshots_of ns xs rs) dir name) ≡ None
      go true f ih = cc
      go false f ih = ih f

  pub has-same : (xs : List Snapshot) (rs : List ℕ) (dir : ℕ) (name : List ℕ) → length rs ≡ length xs → is_some (index_named xs dir name) ≡ is_some (snapshot_named (snapshots_of ns xs rs) dir name)
  has-same [] rs dir name c = refl
  has-same (x ∷ xs) [] dir name c = absurd (omega arith)
  has-same (x ∷ xs) (r ∷ rs) dir name c = go (is_named dir name x) (index_named xs dir name) (has-same xs rs dir name (omega arith))
    where
      go : (t : Bool) (o : Option ℕ) → is_some o ≡ is_some (snapshot_named (snapshots_of ns xs rs) dir name)
          → is_some (cond t (Some 0) (option_map suc o)) ≡ is_some (cond t (Some (record x { rows = rows_from ns r })) (snapshot_named (snapshots_of ns xs rs) dir name))
      go true o h = refl
      go false None h = h
      go false (Some i) h = h

  -- their order

  after-keys : (y : Snapshot) (xs : List Snapshot) (rs : List ℕ) (es : List Entry) → length rs ≡ length xs → AllAfterBy snapshot_cmp (record y { rows = es }) (snapshots_of ns xs rs) → AllAfterBy snapshot_cmp y xs
  after-keys y [] rs es c a = tt
  after-keys y (x ∷ xs) [] es c a = absurd (omega arith)
  after-keys y (x ∷ xs) (r ∷ rs) es c a = (a.0, after-keys y xs rs es (omega arith) a.1)

  pub rising-keys : (xs : List Snapshot) (rs : List ℕ) → length rs ≡ length xs → IsRisingBy snapshot_cmp (snapshots_of ns xs rs) → IsRisingBy snapshot_cmp xs
  rising-keys [] rs c r = tt
  rising-keys (x ∷ xs) [] c r = absurd (omega arith)
  rising-keys (x ∷ xs) (k ∷ rs) c r = (after-keys x xs rs (rows_from ns k) (omega arith) r.0, rising-keys xs rs (omega arith) r.1)

  after-snapshots : (y : Snapshot) (xs : List Snapshot) (rs : List ℕ) (es : List Entry) → AllAfterBy snapshot_cmp y xs → AllAfterBy snapshot_cmp (record y { rows = es }) (snapshots_of ns xs rs)
  after-snapshots y [] rs es a = tt
  after-snapshots y (x ∷ xs) [] es a = tt
  after-snapshots y (x ∷ xs) (r ∷ rs) es a = (a.0, after-snapshots y xs rs es a.1)

  rising-snapshots : (xs : List Snapshot) (rs : List ℕ) → IsRisingBy snapshot_cmp xs → IsRisingBy snapshot_cmp (snapshots_of ns xs rs)
  rising-snapshots [] rs r = tt
  rising-snapshots (x ∷ xs) [] r = tt
  rising-snapshots (x ∷ xs) (k ∷ rs) r = (after-snapshots x xs rs (rows_from ns k) r.0, rising-snapshots xs rs r.1)

  before-same : (key : Snapshot) (xs : List Snapshot) (rs : List ℕ) (k : ℕ) (d : Snapshot) → length rs ≡ length xs → k < length xs → is_lt (snapshot_cmp (get_or (snapshots_of ns xs rs) k d) key) ≡ is_lt (snapshot_cmp (get_or xs k d) key)
  before-same key [] rs k d c lt = absurd (omega arith)
  before-same key (x ∷ xs) [] k d c lt = absurd (omega arith)
  before-same key (x ∷ xs) (r ∷ rs) zero d c lt = refl
  before-same key (x ∷ xs) (r ∷ rs) (suc k) d c lt = before-same key xs rs k d (omega arith) (omega arith)

  pub length-same : (xs : List Snapshot) (rs : List ℕ) → length rs ≡ length xs → length (snapshots_of ns xs rs) ≡ length xs
  length-same [] rs c = refl
  length-same (x ∷ xs) [] c = absurd (omega arith)
  length-same (x ∷ xs) (r ∷ rs) c = ap suc (length-same xs rs (omega arith))

  parted-same : (key : Snapshot) (xs : List Snapshot) (rs : List ℕ) (i : ℕ) → length rs ≡ length xs → i ≤ length xs → Parted snapshot_cmp snapshot-total key xs i → Parted snapshot_cmp snapshot-total key (snapshots_of ns xs rs) i
  parted-same key xs rs i c most h =
      let l = length-same xs rs c in (
        (λ k d low high. before-same key xs rs k d c (omega arith) ∙ h.0 k d (omega arith) (omega arith)),
        (λ k d low high. before-same key xs rs k d c (omega arith) ∙ h.1 k d (omega arith) (omega arith)),
      )

  -- edits

  insert-both : (xs : List Snapshot) (rs : List ℕ) (i : ℕ) (key : Snapshot) (root : ℕ) → length rs ≡ length xs → i ≤ length xs
      → snapshots_of ns (insert xs i key) (insert rs i root) ≡ insert (snapshots_of ns xs rs) i (record key { rows = rows_from ns root })
  insert-both [] [] zero key root c le = refl
  insert-both [] [] (suc i) key root c le = absurd (omega arith)
  insert-both [] (r ∷ rs) i key root c le = absurd (omega arith)
  insert-both (x ∷ xs) [] i key root c le = absurd (omega arith)
  insert-both (x ∷ xs) (r ∷ rs) zero key root c le = refl
  insert-both (x ∷ xs) (r ∷ rs) (suc i) key root c le = ap (λ (ys : List Snapshot). record x { rows = rows_from ns r } ∷ ys) (insert-both xs rs i key root (omega arith) (omega arith))

  remove-both : (xs : List Snapshot) (rs : List ℕ) (i : ℕ) → length rs ≡ length xs → i < length xs → snapshots_of ns (remove xs i) (remove rs i) ≡ remove (snapshots_of ns xs rs) i
  remove-both [] rs i c lt = absurd (omega arith)
  remove-both (x ∷ xs) [] i c lt = absurd (omega arith)
  remove-both (x ∷ xs) (r ∷ rs) zero c lt = refl
  remove-both (x ∷ xs) (r ∷ rs) (suc i) c lt = ap (λ (ys : List Snapshot). record x { rows = rows_from ns r } ∷ ys) (remove-both xs rs i (omega arith) (omega arith))

  -- one snapshot more, at its place
  pub put-both : (xs : List Snapshot) (rs : List ℕ) (i : ℕ) (key : Snapshot) (root : ℕ) → length rs ≡ length xs → i ≤ length xs → snapshot_named xs key.dir key.name ≡ None → Parted snapshot_cmp snapshot-total (key_of key.dir key.name) xs i
      → snapshots_of ns (insert xs i key) (insert rs i root) ≡ put_snapshot (record { dir = key.dir; name = key.name; rows = rows_from ns root }) (snapshots_of ns xs rs)
  put-both xs rs i key root c le free h =
      insert-both xs rs i key root c le
      ∙ taken-put (snapshots_of ns xs rs) (record { dir = key.dir; name = key.name; rows = rows_from ns root }) i (free-snapshot xs rs key.dir key.name c free) (let l = length-same xs rs c in omega arith) (parted-same (key_of key.dir key.name) xs rs i c le h)

  -- without one, if it is there
  pub remove-found : (xs : List Snapshot) (rs : List ℕ) (dir : ℕ) (name : List ℕ) (at : ℕ) → IsRisingBy snapshot_cmp xs → length rs ≡ length xs → Some at ≡ index_named xs dir name → at < length xs
      → snapshots_of ns (remove xs at) (remove rs at) ≡ without_snapshot (snapshots_of ns xs rs) dir name
  remove-found xs rs dir name at r c is lt =
      remove-both xs rs at c lt
      ∙ sym (without-index (snapshots_of ns xs rs) dir name (rising-snapshots xs rs r)
      ∙ ap (λ (o : Option ℕ). option_map_or (λ (at : ℕ). remove (snapshots_of ns xs rs) at) o (snapshots_of ns xs rs)) (index-same xs rs dir name c ∙ sym is))

  pub remove-none : (xs : List Snapshot) (rs : List ℕ) (dir : ℕ) (name : List ℕ) → IsRisingBy snapshot_cmp xs → length rs ≡ length xs → None ≡ index_named xs dir name → snapshots_of ns xs rs ≡ without_snapshot (snapshots_of ns xs rs) dir name
  remove-none xs rs dir name r c is =
      sym (without-index (snapshots_of ns xs rs) dir name (rising-snapshots xs rs r)
      ∙ ap (λ (o : Option ℕ). option_map_or (λ (at : ℕ). remove (snapshots_of ns xs rs) at) o (snapshots_of ns xs rs)) (index-same xs rs dir name c ∙ sym is))

  -- the rows of one

  rows-at : (xs : List Snapshot) (rs : List ℕ) (at d : ℕ) → length rs ≡ length xs → at < length xs → option_map (λ (s : Snapshot). s.rows) (slice_get (snapshots_of ns xs rs) at) ≡ Some (rows_from ns (get_or rs at d))
  rows-at [] rs at d c lt = absurd (omega arith)
  rows-at (x ∷ xs) [] at d c lt = absurd (omega arith)
  rows-at (x ∷ xs) (r ∷ rs) zero d c lt = refl
  rows-at (x ∷ xs) (r ∷ rs) (suc at) d c lt = rows-at xs rs at d (omega arith) (omega arith)

  named-same : (xs : List Snapshot) (rs : List ℕ) (dir : ℕ) (name : List ℕ) (o : Option ℕ) → length rs ≡ length xs → o ≡ index_named xs dir name → snapshot_named (snapshots_of ns xs rs) dir name ≡ option_and_then (λ (at : ℕ). slice_get (snapshots_of ns xs rs) at) o
  named-same xs rs dir name o c is =
      named-index (snapshots_of ns xs rs) dir name ∙ ap (option_and_then (λ (at : ℕ). slice_get (snapshots_of ns xs rs) at)) (index-same xs rs dir name c ∙ sym is)

  pub root-found : (xs : List Snapshot) (rs : List ℕ) (dir : ℕ) (name : List ℕ) (at root : ℕ) → length rs ≡ length xs → Some at ≡ index_named xs dir name → at < length xs → root ≡ get_or rs at root
      → Some (rows_from ns root) ≡ option_map (λ (s : Snapshot). s.rows) (snapshot_named (snapshots_of ns xs rs) dir name)
  root-found xs rs dir name at root c is lt e =
      ap (λ (r : ℕ). Some (rows_from ns r)) e ∙ sym (ap (option_map (λ (s : Snapshot). s.rows)) (named-same xs rs dir name (Some at) c is) ∙ rows-at xs rs at root c lt)

  pub root-none : (xs : List Snapshot) (rs : List ℕ) (dir : ℕ) (name : List ℕ) → length rs ≡ length xs → None ≡ index_named xs dir name → None ≡ option_map (λ (s : Snapshot). s.rows) (snapshot_named (snapshots_of ns xs rs) dir name)
  root-none xs rs dir name c is = sym (ap (option_map (λ (s : Snapshot). s.rows)) (named-same xs rs dir name None c is))

  pub rows-in : (xs : List Snapshot) (dir : ℕ) (name : List ℕ) (o : Option ℕ) → option_map (rows_from ns) o ≡ option_map (λ (s : Snapshot). s.rows) (snapshot_named xs dir name) → option_map_or (rows_from ns) o [] ≡ rows_in xs dir name
  rows-in xs dir name o h = go o (snapshot_named xs dir name) h
    where
      go : (o : Option ℕ) (p : Option Snapshot) → option_map (rows_from ns) o ≡ option_map (λ (s : Snapshot). s.rows) p → option_map_or (rows_from ns) o [] ≡ option_map_or (λ s. s.rows) p []
      go None None f = refl
      go None (Some x) f = cc
      go (Some i) None f = cc
      go (Some i) (Some x) f = cc
