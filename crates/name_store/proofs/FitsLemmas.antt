-- The snapshots fit the rows after each operation that is allowed.
use Rattle.std.proofs.Common.{◌≡◌, ℕ, Bool, true, false, cond, not, ◌||◌, ◌==◌, List, [], ◌∷◌, ◌++◌, length, drop, get_or, Option, Some, None, Result, Ok, Err, refl, sym, ap, ◌∙◌, subst, Ordering}
use Rattle.std.specs.Prelude.{OnOk, OnErr}
use Rattle.std.specs.List.{All, filter, list_any}
use Rattle.std.specs.Option.{option_map, option_map_or}
use Rattle.std.specs.Ordering.{is_lt, nat_cmp}
use Rattle.std.specs.Str.{bytes_eq}
use Rattle.std.proofs.lemmas.Bool.Decides.{Decides-eqb}
use Rattle.std.proofs.lemmas.Slice.Eq.{bytes_eq-Decides}
use Rattle.std.proofs.lemmas.List.Elements.{All-cons, All-filter, All-head, All-map, All-nil, All-tail, All-weaker, filter_passes}
use Rattle.std.proofs.lemmas.List.Sums.{AllPass-from_list_all}
use Rattle.std.proofs.lemmas.Bool.{not-true, and_parts}
use Rattle.hk_base.specs.declared.names.KeyName.{KeyName}
use Rattle.name_calls.specs.Paths.{is_before, is_prefix, is_relative}
use Rattle.inode_tree.specs.declared.rows.Kind.TheVariants.{Dir}
use Rattle.inode_tree.specs.Below.{at_or_below, rows_below, seen_from}
use Rattle.inode_tree.specs.Moves.{CanMove, moved, renamed}
use Rattle.inode_tree.specs.Rows.{Entry, IsRows, entry_of, is_dir, is_dir_at, put, removed, row_at, set_kind, with_kind}
use Rattle.inode_tree.proofs.MovedLaws.{entry-renamed}
use Rattle.snap_store.specs.Ordered.{put_by}
use Rattle.snap_store.specs.Snapshots.{SnapTable, Snapshot, frozen, holds_snapshot, is_among, is_named, snapshot_cmp, table_after_take, with_id, without_below}
use Rattle.edit_ops.specs.declared.ops.EditOp.{EditOp}
use Rattle.edit_ops.specs.declared.ops.EditOp.TheVariants as op
use Rattle.name_store.specs.Causes.{id_at, kept_causes, removal_causes}
use Rattle.name_store.specs.Table.{FitsRows, IsNameTable, NameTable, after_table, allows, new_directory, new_file, path_of, row_of, with_edeks}
use Rattle.name_store.proofs.CauseLemmas.{allowable, allowed, holds-none, id-may-be-used, none-of-both, renamable, snappable}
use Rattle.name_store.proofs.RowLemmas.{directory-entry}
use Rattle.name_store.proofs.UpdateLemmas.{dirs-kept, entry-kind, updated-files}

abbrev Stands : List Entry → ℕ → Type 0
Stands rows id = is_dir_at (row_of rows id) ≡ true

abbrev IsWhole : List Entry → Snapshot → Type 0
IsWhole rows s = All (λ (e : Entry). is_relative (path_of rows s.dir ++ e.path) ≡ true) s.rows

-- a directory stays where it is
record Stays (rows rows' : List Entry) (id : ℕ) : Type 0 where
  path : path_of rows' id ≡ path_of rows id
  stands : Stands rows' id

-- the snapshots fit rows in which their directories stay
fits-stay : (rows rows' : List Entry) (snaps : SnapTable) → All (Stays rows rows') snaps.allowed → All (λ (s : Snapshot). Stays rows rows' s.dir) snaps.taken → All (IsWhole rows) snaps.taken → FitsRows rows' snaps
fits-stay rows rows' snaps ids dirs whole = record {
  stand = All-weaker (Stays rows rows') (Stands rows') (λ id s. s.stands) snaps.allowed ids;
  whole = λ k d lt. subst (λ (p : List (List ℕ)). All (λ (e : Entry). is_relative (p ++ e.path) ≡ true) (get_or snaps.taken k d).rows) (sym (dirs k d lt).path) (whole k d lt);
}

among-holds : (P : ℕ → Type 0) (ids : List ℕ) (id : ℕ) → is_among ids id ≡ true → All P ids → P id
among-holds P [] id h all = absurd cc
among-holds P (i ∷ ids) id h all = go (i == id) refl h (λ k. among-holds P ids id k (All-tail P i ids all))
  where
    go : (b : Bool) → (i == id) ≡ b → (b || is_among ids id) ≡ true → (is_among ids id ≡ true → P id) → P id
    go true is k rest = subst P ((Decides-eqb i id).0 is) (All-head P i ids all)
    go false is k rest = rest k

-- the directory of each snapshot stands
dirs-stand : (t : NameTable) → IsNameTable t → All (λ (s : Snapshot). Stands t.rows s.dir) t.snaps.taken
dirs-stand t good =
    All-weaker (λ (s : Snapshot). is_among t.snaps.allowed s.dir ≡ true) (λ (s : Snapshot). Stands t.rows s.dir)
    (λ s h. among-holds (Stands t.rows) t.snaps.allowed s.dir h good.fits.stand) t.snaps.taken
    (AllPass-from_list_all (λ (s : Snapshot). is_among t.snaps.allowed s.dir) t.snaps.taken good.snaps.housed)

-- every standing directory stays
fits-all : (t : NameTable) (rows : List Entry) → IsNameTable t → ((id : ℕ) → Stands t.rows id → Stays t.rows rows id) → FitsRows rows t.snaps
fits-all t rows good stays =
    fits-stay t.rows rows t.snaps (All-weaker (Stands t.rows) (Stays t.rows rows) stays t.snaps.allowed good.fits.stand)
    (All-weaker (λ (s : Snapshot). Stands t.rows s.dir) (λ (s : Snapshot). Stays t.rows rows s.dir) (λ s. stays s.dir) t.snaps.taken (dirs-stand t good)) good.fits.whole

-- a directory that stands has an entry
stands-at : (rows : List Entry) (id : ℕ) → Stands rows id → (e : Entry) × (entry_of rows id ≡ Some e)
stands-at rows id h = go (entry_of rows id) refl h
  where
    go : (o : Option Entry) → entry_of rows id ≡ o → is_dir_at (option_map (λ e. e.row) o) ≡ true → (e : Entry) × (entry_of rows id ≡ Some e)
    go None is k = absurd cc
    go (Some e) is k = (e, is)

same-entry : (rows rows' : List Entry) (id : ℕ) → entry_of rows' id ≡ entry_of rows id → Stands rows id → Stays rows rows' id
same-entry rows rows' id same h = record {
  path = ap (λ (o : Option Entry). option_map_or (λ e. e.path) o []) same;
  stands = ap (λ (o : Option Entry). is_dir_at (option_map (λ e. e.row) o)) same ∙ h;
}

-- a row that is put in

-- a row of another id keeps its entry
pub entry-old : (e : Entry) (rows : List Entry) (id : ℕ) → (e.row.id == id) ≡ false → entry_of (put e rows) id ≡ entry_of rows id
entry-old e [] id h = ap (λ b. cond b (Some e) None) h
entry-old e (y ∷ ys) id h = go (is_before e.path y.path) (entry-old e ys id h)
  where
    go : (b : Bool) → entry_of (put e ys) id ≡ entry_of ys id → entry_of (cond b (e ∷ y ∷ ys) (y ∷ put e ys)) id ≡ entry_of (y ∷ ys) id
    go true ih = ap (λ c. cond c (Some e) (entry_of (y ∷ ys) id)) h
    go false ih = ap (λ o. cond (y.row.id == id) (Some y) o) ih

stays-put : (e : Entry) (rows : List Entry) → entry_of rows e.row.id ≡ None → (id : ℕ) → Stands rows id → Stays rows (put e rows) id
stays-put e rows fresh id h = same-entry rows (put e rows) id (entry-old e rows id (go (e.row.id == id) refl)) h
  where
    go : (b : Bool) → (e.row.id == id) ≡ b → b ≡ false
    go true is =
        let there = stands-at rows id h in
        let none : entry_of rows id ≡ None = ap (entry_of rows) (sym ((Decides-eqb e.row.id id).0 is)) ∙ fresh in
        absurd (cc (there.1, none))
    go false is = refl

-- rows that are taken away

-- an entry that is kept is still that of its id
pub entry-kept : (keeps : Entry → Bool) (rows : List Entry) (id : ℕ) (x : Entry) → keeps x ≡ true → entry_of rows id ≡ Some x → entry_of (filter keeps rows) id ≡ Some x
entry-kept keeps [] id x kept h = absurd cc
entry-kept keeps (y ∷ ys) id x kept h = go (keeps y) refl (y.row.id == id) refl h (entry-kept keeps ys id x kept)
  where
    go : (b : Bool) → keeps y ≡ b → (t : Bool) → (y.row.id == id) ≡ t → cond t (Some y) (entry_of ys id) ≡ Some x → (entry_of ys id ≡ Some x → entry_of (filter keeps ys) id ≡ Some x)
        → entry_of (cond b (y ∷ filter keeps ys) (filter keeps ys)) id ≡ Some x
    go true here true is k ih = ap (λ c. cond c (Some y) (entry_of (filter keeps ys) id)) is ∙ k
    go true here false is k ih = ap (λ c. cond c (Some y) (entry_of (filter keeps ys) id)) is ∙ ih k
    go false here true is k ih = let same : y ≡ x = cc k in let gone : keeps x ≡ false = ap keeps (sym same) ∙ here in absurd (cc (gone, kept))
    go false here false is k ih = ih k

stays-removed : (p : List (List ℕ)) (rows : List Entry) (id : ℕ) → Stands rows id → at_or_below rows id p ≡ false → Stays rows (removed p rows) id
stays-removed p rows id h beside =
    let there = stands-at rows id h in
    let out : is_prefix p there.0.path ≡ false = ap (λ (o : Option Entry). option_map_or (λ e. is_prefix p e.path) o false) (sym there.1) ∙ beside in
    same-entry rows (removed p rows) id (entry-kept (λ e. not (is_prefix p e.path)) rows id there.0 (ap not out) there.1 ∙ sym there.1) h

not-any : {X : Type 0} (q : X → Bool) (xs : List X) → list_any q xs ≡ false → All (λ x. q x ≡ false) xs
not-any q [] h = All-nil (λ x. q x ≡ false)
not-any q (x ∷ xs) h = let parts = neither (q x) (list_any q xs) h in All-cons (λ x. q x ≡ false) x xs parts.0 (not-any q xs parts.1)
  where
    neither : (a b : Bool) → (a || b) ≡ false → (a ≡ false) × (b ≡ false)
    neither true b k = absurd cc
    neither false b k = (refl, k)

fits-removed : (t : NameTable) (p : List (List ℕ)) → IsNameTable t → holds_snapshot t.rows t.snaps.taken p ≡ false → FitsRows (removed p t.rows) (record t.snaps { allowed = without_below t.rows p t.snaps.allowed })
fits-removed t p good none =
    let beside = not-any (λ (s : Snapshot). at_or_below t.rows s.dir p) t.snaps.taken none in
    let left = All-filter (λ id. not (at_or_below t.rows id p)) (Stands t.rows) t.snaps.allowed good.fits.stand in
    let passed = filter_passes (λ id. not (at_or_below t.rows id p)) t.snaps.allowed in
    fits-stay t.rows (removed p t.rows) (record t.snaps { allowed = without_below t.rows p t.snaps.allowed })
    (λ k d lt. stays-removed p t.rows (get_or (without_below t.rows p t.snaps.allowed) k d) (left k d lt) (not-true (at_or_below t.rows (get_or (without_below t.rows p t.snaps.allowed) k d) p) (passed k d lt)))
    (λ k d lt. stays-removed p t.rows (get_or t.snaps.taken k d).dir (dirs-stand t good k d lt) (beside k d lt)) good.fits.whole

-- rows that move

-- a directory that moves is still one
stands-renamed : (rows : List Entry) (p q : List (List ℕ)) (id : ℕ) → IsRows rows → CanMove rows p q → Stands rows id → Stands (renamed p q rows) id
stands-renamed rows p q id good can h = ap dir_in (entry-renamed rows p q good can id) ∙ still (entry_of rows id) ∙ h
  where
    dir_in : Option Entry → Bool
    dir_in o = is_dir_at (option_map (λ e. e.row) o)

    still : (o : Option Entry) → dir_in (option_map (moved p q) o) ≡ dir_in o
    still None = refl
    still (Some e) = refl

-- one that doesn't move stays at its path
path-renamed : (rows : List Entry) (p q : List (List ℕ)) (id : ℕ) → IsRows rows → CanMove rows p q → at_or_below rows id p ≡ false → path_of (renamed p q rows) id ≡ path_of rows id
path-renamed rows p q id good can beside = ap path_in (entry-renamed rows p q good can id) ∙ go (entry_of rows id) beside
  where
    path_in : Option Entry → List (List ℕ)
    path_in o = option_map_or (λ e. e.path) o []

    go : (o : Option Entry) → option_map_or (λ e. is_prefix p e.path) o false ≡ false → path_in (option_map (moved p q) o) ≡ path_in o
    go None out = refl
    go (Some e) out = ap (λ (b : Bool). cond b (q ++ drop (length p) e.path) e.path) out

fits-renamed : (t : NameTable) (p q : List (List ℕ)) → IsNameTable t → CanMove t.rows p q → holds_snapshot t.rows t.snaps.taken p ≡ false → FitsRows (renamed p q t.rows) t.snaps
fits-renamed t p q good can none =
    let beside = not-any (λ (s : Snapshot). at_or_below t.rows s.dir p) t.snaps.taken none in
    record {
      stand = All-weaker (Stands t.rows) (Stands (renamed p q t.rows)) (λ id h. stands-renamed t.rows p q id good.rules can h) t.snaps.allowed good.fits.stand;
      whole = λ k d lt.
          subst (λ (r : List (List ℕ)). All (λ (e : Entry). is_relative (r ++ e.path) ≡ true) (get_or t.snaps.taken k d).rows)
          (sym (path-renamed t.rows p q (get_or t.snaps.taken k d).dir good.rules can (beside k d lt))) (good.fits.whole k d lt);
    }

-- a row with another kind

stays-kind : (n : ℕ) (key : KeyName) (rows : List Entry) (id : ℕ) → Stands rows id → Stays rows (set_kind rows n (Dir (Some key))) id
stays-kind n key rows id h = record {
  path = ap path_in (entry-kind n (Dir (Some key)) rows id) ∙ same_path_as (entry_of rows id);
  stands = ap dir_in (entry-kind n (Dir (Some key)) rows id) ∙ still (entry_of rows id) h;
}
  where
    path_in : Option Entry → List (List ℕ)
    path_in o = option_map_or (λ e. e.path) o []

    dir_in : Option Entry → Bool
    dir_in o = is_dir_at (option_map (λ e. e.row) o)

    marked_as : Bool → Entry → Entry
    marked_as b e = cond b (record e { row = record { id = n; kind = Dir (Some key) } }) e

    same_path_as : (o : Option Entry) → path_in (option_map (with_kind n (Dir (Some key))) o) ≡ path_in o
    same_path_as None = refl
    same_path_as (Some e) = go (e.row.id == n)
      where
        go : (b : Bool) → (marked_as b e).path ≡ e.path
        go true = refl
        go false = refl

    still : (o : Option Entry) → dir_in o ≡ true → dir_in (option_map (with_kind n (Dir (Some key))) o) ≡ true
    still None k = absurd cc
    still (Some e) k = go (e.row.id == n)
      where
        go : (b : Bool) → is_dir (marked_as b e).row.kind ≡ true
        go true = refl
        go false = k

-- changes of the snapshots

all-put-by : {X : Type 0} (cmp : X → X → Ordering) (P : X → Type 0) (x : X) (xs : List X) → P x → All P xs → All P (put_by cmp x xs)
all-put-by cmp P x [] p h = All-cons P x [] p h
all-put-by cmp P x (y ∷ ys) p h = go (is_lt (cmp x y)) (all-put-by cmp P x ys p (All-tail P y ys h))
  where
    go : (b : Bool) → All P (put_by cmp x ys) → All P (cond b (x ∷ y ∷ ys) (y ∷ put_by cmp x ys))
    go true rest = All-cons P x (y ∷ ys) p h
    go false rest = All-cons P y (put_by cmp x ys) (All-head P y ys h) rest

all-with : (P : ℕ → Type 0) (id : ℕ) (ids : List ℕ) → P id → All P ids → All P (with_id id ids)
all-with P id ids p h = go (is_among ids id)
  where
    go : (b : Bool) → All P (cond b ids (put_by nat_cmp id ids))
    go true = h
    go false = all-put-by nat_cmp P id ids p h

-- the directory at a path stands, at that path
dir-stands : (rows : List Entry) (p : List (List ℕ)) → IsRows rows → is_dir_at (row_at rows p) ≡ true → Stands rows (id_at rows p)
dir-stands rows p good dir =
    let at = directory-entry rows p good dir in
    ap (λ (o : Option Entry). is_dir_at (option_map (λ e. e.row) o)) at.1 ∙ at.3

prefix-joins : (p q : List (List ℕ)) → is_prefix p q ≡ true → p ++ drop (length p) q ≡ q
prefix-joins [] q h = refl
prefix-joins (x ∷ p) [] h = absurd cc
prefix-joins (x ∷ p) (y ∷ q) h = let parts = and_parts (bytes_eq x y) (is_prefix p q) h in λ i. (bytes_eq-Decides x y).0 parts.0 i ∷ prefix-joins p q parts.1 i

-- the rows below a directory, seen from the root
whole-below : (p : List (List ℕ)) (rows : List Entry) → All (λ e. is_relative e.path ≡ true) rows → All (λ (e : Entry). is_relative (p ++ e.path) ≡ true) (rows_below rows p)
whole-below p rows ruled =
    let below = filter (λ (e : Entry). is_prefix p e.path) rows in
    let under = filter_passes (λ (e : Entry). is_prefix p e.path) rows in
    let kept = All-filter (λ (e : Entry). is_prefix p e.path) (λ e. is_relative e.path ≡ true) rows ruled in
    All-map (λ (e : Entry). is_relative (p ++ e.path) ≡ true) (seen_from (length p)) below
    (λ k d lt. ap is_relative (prefix-joins p (get_or below k d).path (under k d lt)) ∙ kept k d lt)

whole-frozen : (rows : List Entry) (dir : ℕ) → IsRows rows → Stands rows dir → All (λ (e : Entry). is_relative (path_of rows dir ++ e.path) ≡ true) (frozen rows dir)
whole-frozen rows dir good h =
    let there = stands-at rows dir h in
    subst (λ (o : Option Entry). All (λ (e : Entry). is_relative (option_map_or (λ e. e.path) o [] ++ e.path) ≡ true) (option_map_or (λ e. rows_below rows e.path) o [])) (sym there.1)
    (whole-below there.0.path rows good.ruled)

module _ (t : NameTable) (good : IsNameTable t) where
  fits-taken : (p : List (List ℕ)) (name : List ℕ) → is_dir_at (row_at t.rows p) ≡ true → FitsRows t.rows (table_after_take t.rows (id_at t.rows p) name t.snaps)
  fits-taken p name dir = record {
    stand = good.fits.stand;
    whole = all-put-by snapshot_cmp (IsWhole t.rows) (record { dir = id_at t.rows p; name = name; rows = frozen t.rows (id_at t.rows p) }) t.snaps.taken
        (whole-frozen t.rows (id_at t.rows p) good.rules (dir-stands t.rows p good.rules dir)) good.fits.whole;
  }

  -- an operation that is allowed
  pub fits-after : (o : EditOp) → allows t o ≡ true → FitsRows (after_table t o).rows (after_table t o).snaps
  fits-after (op.Opened opening) may = good.fits
  fits-after (op.Mkdir id p) may = fits-all t (put (new_directory id p) t.rows) good (stays-put (new_directory id p) t.rows (id-may-be-used t id (allowed t (op.Mkdir id p) refl may).ids).free)
  fits-after (op.File id p edek) may = fits-all t (put (new_file id p edek) t.rows) good (stays-put (new_file id p edek) t.rows (id-may-be-used t id (allowed t (op.File id p edek) refl may).ids).free)
  fits-after (op.Remove p) may = fits-removed t p good (holds-none t.rows t.snaps p (none-of-both (removal_causes t.rows p) (kept_causes t.rows t.snaps p) (allowed t (op.Remove p) refl may).free).1)
  fits-after (op.Rename p q) may = let free = renamable t.rows t.snaps t.statuses p q (allowed t (op.Rename p q) refl may).free in fits-renamed t p q good free.can free.none
  fits-after (op.Zone p key) may = fits-all t (set_kind t.rows (id_at t.rows p) (Dir (Some key))) good (stays-kind (id_at t.rows p) key t.rows)
  fits-after (op.Allow p) may = record {
    stand = all-with (Stands t.rows) (id_at t.rows p) t.snaps.allowed
        (dir-stands t.rows p good.rules (allowable t.rows t.snaps p (allowed t (op.Allow p) refl may).free)) good.fits.stand;
    whole = good.fits.whole;
  }
  fits-after (op.Disallow p) may = record { stand = All-filter (λ i. not (i == id_at t.rows p)) (Stands t.rows) t.snaps.allowed good.fits.stand; whole = good.fits.whole }
  fits-after (op.Snap p name) may = fits-taken p name (snappable t.rows t.snaps p name (allowed t (op.Snap p name) refl may).free).dir
  fits-after (op.Unsnap p name) may = record {
    stand = good.fits.stand;
    whole = All-filter (λ (s : Snapshot). not (is_named (id_at t.rows p) name s)) (IsWhole t.rows) t.snaps.taken good.fits.whole;
  }
  fits-after (op.Submit session p noted) may = good.fits
  fits-after (op.Update session failed mark files) may =
      let stand = updated-files t t session failed mark files (op.Update session failed mark files) refl refl may in
      fits-all t (with_edeks files t.rows) good (λ id h. same-entry t.rows (with_edeks files t.rows) id (dirs-kept files t.rows id stand h) h)
  fits-after (op.Cancel session) may = good.fits
  fits-after (op.Complete session) may = good.fits

-- whether it took effect, or there was no memory
pub either : {A E X : Type 0} (P : X → Type 0) (r : Result A E) (new done old : X) → OnOk r (new ≡ done) → OnErr r (new ≡ old) → P done → P old → P new
either P (Ok x) new done old ok err h k = subst P (sym ok) h
either P (Err e) new done old ok err h k = subst P (sym err) k
