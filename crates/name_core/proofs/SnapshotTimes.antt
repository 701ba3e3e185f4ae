-- What info and lists tell of a snapshot stays the same while the snapshot is there.
use Rattle.std.proofs.Common.{◌≡◌, ℕ, ◌+◌, ◌≤◌, zero, suc, Bool, true, false, cond, not, ◌&&◌, ◌||◌, List, [], ◌∷◌, ◌++◌, drop, length, Option, Some, None, is_none, refl, sym, ap, ◌∙◌, subst, arith}
use Rattle.std.specs.Prelude.{◌==◌}
use Rattle.std.specs.List.{All, AllByRecursion, filter, find, list_all, list_any}
use Rattle.std.specs.Option.{option_map, option_map_or}
use Rattle.std.specs.Ordering.{is_lt, nat_cmp}
use Rattle.std.specs.Str.{bytes_eq}
use Rattle.std.proofs.lemmas.Bool.Decides.{nat_tests}
use Rattle.std.proofs.lemmas.List.Elements.{All-head, All-tail}
use Rattle.std.proofs.lemmas.Slice.Eq.{bytes_eq-Decides}
use Rattle.std.proofs.lemmas.Bool.{not-false, and_parts, and_from, eqb-true}
use Rattle.hk_base.specs.declared.names.KeyName.{KeyName}
use Rattle.name_calls.specs.Paths.{is_child, is_prefix, parent, same_path}
use Rattle.name_calls.specs.ReadPaths.{as_it_was}
use Rattle.inode_tree.specs.declared.rows.Row.{Row}
use Rattle.inode_tree.specs.declared.rows.Kind.{Kind}
use Rattle.inode_tree.specs.declared.rows.Kind.TheVariants.{Dir}
use Rattle.inode_tree.specs.Below.{at_or_below}
use Rattle.inode_tree.specs.Listing.{children}
use Rattle.inode_tree.specs.Moves.{CanMove, renamed}
use Rattle.inode_tree.specs.Rows.{Entry, IsRows, entry_of, has_children, is_dir, is_dir_at, is_marked, is_zone_over, longer, put, row_at, set_kind, with_kind, zone_of}
use Rattle.inode_tree.proofs.MovedLaws.{free as all-off, off-parent, placed, row-renamed}
use Rattle.inode_tree.proofs.MovedRows.{IsOff}
use Rattle.inode_tree.proofs.MovedZones.{zone-elsewhere}
use Rattle.inode_tree.proofs.Seeks.{same-is}
use Rattle.inode_tree.proofs.ZoneLemmas.{prefix-itself}
use Rattle.snap_store.specs.Ordered.{put_by}
use Rattle.snap_store.specs.Snapshots.{Snapshot, is_among, is_named, rows_in, snapshot_named, with_id, without_id}
use Rattle.edit_ops.specs.declared.ops.EditOp.{EditOp}
use Rattle.edit_ops.specs.declared.ops.EditOp.TheVariants as op
use Rattle.name_calls.specs.declared.calls.NameRefusal.{NameRefusal}
use Rattle.name_calls.specs.declared.calls.NameRefusal.TheVariants as refusal
use Rattle.name_calls.specs.declared.calls.NameReply.TheVariants as reply
use Rattle.name_store.specs.Causes.{allowed_causes, directory_causes, disallow_causes, first_cause, id_at, id_of, is_root, kept_causes, make_causes, removal_causes, row_causes, unsnap_causes}
use Rattle.name_store.specs.Table.{IsNameTable, NameTable, after_table, allows, ids_once, may_update, new_directory, new_file}
use Rattle.name_store.proofs.CauseLemmas.{IsDisallowable, IsMarkable, allowed, clear, directory, disallowable, holds-none, makeable, markable, none-of-both, none-of-join, renamable}
use Rattle.name_store.proofs.IdLemmas.{kind-id}
use Rattle.name_store.proofs.RowLemmas.{directory-entry, entry-at}
use Rattle.name_core.specs.Reads.{answer_unless, entry_causes, info_answer, info_reply, list_answer, list_reply, shown_at, snapshot_rows, zone_in_or_above, zone_over}
use Rattle.name_core.specs.Laws.{SnapshotsTellTheSame}
use Rattle.name_core.proofs.DeleteLaws.{other-row, other-zone}
use Rattle.name_core.proofs.EdekRows.{all-files, row-edeks, zone-edeks}
use Rattle.name_core.proofs.LawLemmas.{prefix-parent, row-other, zone-same}
use Rattle.name_core.proofs.SnapshotLaws.{behind-none, missing, stays}
use Rattle.name_core.proofs.ZoneLaws.{kind-path}

-- a snapshot that is read
record IsRead (t : NameTable) (p : List (List ℕ)) (name : List ℕ) : Type 0 where
  dir : is_dir_at (row_at t.rows p) ≡ true
  allowed : is_among t.snaps.allowed (id_at t.rows p) ≡ true
  was : Snapshot
  named : snapshot_named t.snaps.taken (id_at t.rows p) name ≡ Some was

is-read : (t : NameTable) (p : List (List ℕ)) (name : List ℕ) → first_cause (unsnap_causes t.rows t.snaps p name) ≡ None → IsRead t p name
is-read t p name free =
    let dir = none-of-both (directory_causes t.rows p) (allowed_causes t.rows t.snaps p ++ missing t p name) free in
    let may = none-of-both (allowed_causes t.rows t.snaps p) (missing t p name) dir.1 in
    go (directory t.rows p dir.0) (not-false _ (clear (not (is_among t.snaps.allowed (id_at t.rows p))) refusal.NotSnapshottable None may.0).0)
    (snapshot_named t.snaps.taken (id_at t.rows p) name) refl (clear (is_none (snapshot_named t.snaps.taken (id_at t.rows p) name)) refusal.NoSuchSnapshot None may.1).0
  where
    go : is_dir_at (row_at t.rows p) ≡ true → is_among t.snaps.allowed (id_at t.rows p) ≡ true → (o : Option Snapshot) → snapshot_named t.snaps.taken (id_at t.rows p) name ≡ o → is_none o ≡ false → IsRead t p name
    go dir may None is h = absurd cc
    go dir may (Some was) is h = record { dir = dir; allowed = may; was = was; named = is }

-- the directory of the snapshot, and the zone over it, are the same in another table
record IsSame (t t' : NameTable) (p : List (List ℕ)) : Type 0 where
  id : id_at t'.rows p ≡ id_at t.rows p
  dir : is_dir_at (row_at t'.rows p) ≡ true
  zone : zone_over t'.rows p ≡ zone_over t.rows p
  allowed : is_among t'.snaps.allowed (id_at t.rows p) ≡ true

over-by : (rows' rows : List Entry) (p : List (List ℕ)) → zone_of rows' (parent p) ≡ zone_of rows (parent p) → zone_over rows' p ≡ zone_over rows p
over-by rows' rows p zone = ap (λ (o : Option Entry). cond (is_root p) None (option_map (λ (e : Entry). e.path) o)) zone

same-rows : (t t' : NameTable) (p : List (List ℕ)) → is_dir_at (row_at t.rows p) ≡ true → row_at t'.rows p ≡ row_at t.rows p → zone_of t'.rows (parent p) ≡ zone_of t.rows (parent p)
    → is_among t'.snaps.allowed (id_at t.rows p) ≡ true → IsSame t t' p
same-rows t t' p dir row zone may = record { id = ap id_of row; dir = ap is_dir_at row ∙ dir; zone = over-by t'.rows t.rows p zone; allowed = may }

-- a row that is put in

put-apart : (rows : List Entry) (q p : List (List ℕ)) → row_at rows q ≡ None → is_dir_at (row_at rows p) ≡ true → same_path q p ≡ false
put-apart rows q p none dir = go (same_path q p) refl
  where
    go : (b : Bool) → same_path q p ≡ b → b ≡ false
    go true is = let f : false ≡ true = sym (ap is_dir_at none) ∙ ap (λ (x : List (List ℕ)). is_dir_at (row_at rows x)) (same-is q p is) ∙ dir in absurd cc
    go false is = refl

same-put : (t : NameTable) (p : List (List ℕ)) (e : Entry) → is_dir_at (row_at t.rows p) ≡ true → is_among t.snaps.allowed (id_at t.rows p) ≡ true → is_marked e.row ≡ false → row_at t.rows e.path ≡ None
    → IsSame t (record t { rows = put e t.rows }) p
same-put t p e dir may plain none = same-rows t (record t { rows = put e t.rows }) p dir (row-other e t.rows p (put-apart t.rows e.path p none dir)) (zone-same e t.rows (parent p) plain) may

-- rows that are taken away

none-holds : (f test : Snapshot → Bool) (taken : List Snapshot) (s : Snapshot) → list_any f taken ≡ false → find test taken ≡ Some s → f s ≡ false
none-holds f test [] s none is = absurd cc
none-holds f test (x ∷ taken) s none is = go (f x) refl none (test x) is (none-holds f test taken s)
  where
    go : (b : Bool) → f x ≡ b → (b || list_any f taken) ≡ false → (c : Bool) → cond c (Some x) (find test taken) ≡ Some s → (list_any f taken ≡ false → find test taken ≡ Some s → f s ≡ false) → f s ≡ false
    go true at none c is rest = absurd cc
    go false at none true is rest = let same : x ≡ s = cc in ap f (sym same) ∙ at
    go false at none false is rest = rest none is

among-kept : (keeps : ℕ → Bool) (ids : List ℕ) (id : ℕ) → keeps id ≡ true → is_among ids id ≡ true → is_among (filter keeps ids) id ≡ true
among-kept keeps [] id kept h = h
among-kept keeps (i ∷ ids) id kept h = go (keeps i) refl (i == id) refl h (among-kept keeps ids id kept)
  where
    go : (b : Bool) → keeps i ≡ b → (c : Bool) → (i == id) ≡ c → (c || is_among ids id) ≡ true → (is_among ids id ≡ true → is_among (filter keeps ids) id ≡ true)
        → is_among (cond b (i ∷ filter keeps ids) (filter keeps ids)) id ≡ true
    go true k true same h rest = ap (λ (c : Bool). c || is_among (filter keeps ids) id) same
    go true k false other h rest = ap (λ (c : Bool). c || is_among (filter keeps ids) id) other ∙ rest h
    go false k true same h rest = let f : true ≡ false = sym kept ∙ ap keeps (sym (eqb-true i id same)) ∙ k in absurd cc
    go false k false other h rest = rest h

-- a directory that holds no snapshot is not above that of one
apart-from : (t : NameTable) (p q : List (List ℕ)) (name : List ℕ) → IsRows t.rows → IsRead t p name → list_any (λ (s : Snapshot). at_or_below t.rows s.dir q) t.snaps.taken ≡ false
    → (at_or_below t.rows (id_at t.rows p) q ≡ false) × (is_prefix q p ≡ false)
apart-from t p q name good r none = (below, sym (ap (λ (o : Option Entry). option_map_or (λ (e : Entry). is_prefix q e.path) o false) at.1 ∙ ap (is_prefix q) at.2) ∙ below)
  where
    at : (dir : Entry) × (entry_of t.rows (id_at t.rows p) ≡ Some dir) × (dir.path ≡ p) × (is_dir dir.row.kind ≡ true)
    at = directory-entry t.rows p good r.dir

    named : (taken : List Snapshot) (s : Snapshot) → find (is_named (id_at t.rows p) name) taken ≡ Some s → s.dir ≡ id_at t.rows p
    named [] s is = absurd cc
    named (x ∷ taken) s is = go (is_named (id_at t.rows p) name x) refl is (named taken s)
      where
        go : (b : Bool) → is_named (id_at t.rows p) name x ≡ b → cond b (Some x) (find (is_named (id_at t.rows p) name) taken) ≡ Some s → (find (is_named (id_at t.rows p) name) taken ≡ Some s → s.dir ≡ id_at t.rows p) → s.dir ≡ id_at t.rows p
        go true at is rest = let same : x ≡ s = cc in ap (λ (y : Snapshot). y.dir) (sym same) ∙ eqb-true x.dir (id_at t.rows p) (and_parts (x.dir == id_at t.rows p) (bytes_eq x.name name) at).0
        go false at is rest = rest is

    below : at_or_below t.rows (id_at t.rows p) q ≡ false
    below =
        ap (λ (id : ℕ). at_or_below t.rows id q) (sym (named t.snaps.taken r.was r.named))
        ∙ none-holds (λ (s : Snapshot). at_or_below t.rows s.dir q) (is_named (id_at t.rows p) name) t.snaps.taken r.was none r.named

-- rows that move

-- below a path where there is no row there is no directory
off-at : (q p : List (List ℕ)) (es : List Entry) → AllByRecursion (IsOff q) es → is_dir_at (row_at es p) ≡ true → is_prefix q p ≡ false
off-at q p [] off dir = absurd cc
off-at q p (x ∷ es) off dir = go (same_path x.path p) refl dir (off-at q p es off.1)
  where
    go : (b : Bool) → same_path x.path p ≡ b → is_dir_at (cond b (Some x.row) (row_at es p)) ≡ true → (is_dir_at (row_at es p) ≡ true → is_prefix q p ≡ false) → is_prefix q p ≡ false
    go true is dir rest = ap (is_prefix q) (sym (same-is x.path p is)) ∙ off.0
    go false is dir rest = rest dir

-- a directory that doesn't move stays, and the zone over it too
same-rename : (t : NameTable) (p a b : List (List ℕ)) → IsRows t.rows → CanMove t.rows a b → is_prefix a p ≡ false → is_dir_at (row_at t.rows p) ≡ true → is_among t.snaps.allowed (id_at t.rows p) ≡ true
    → IsSame t (after_table t (op.Rename a b)) p
same-rename t p a b good can out dir may = same-rows t (after_table t (op.Rename a b)) p dir row (zone-elsewhere t.rows a b good can (parent p) (off-parent a p out) (off-parent b p off)) may
  where
    off : is_prefix b p ≡ false
    off = off-at b p t.rows (all-off t.rows a b (placed t.rows good) can) dir

    row : row_at (renamed a b t.rows) p ≡ row_at t.rows p
    row =
        row-renamed t.rows a b good can p
        ∙ ap (λ (c : Bool). cond c (row_at t.rows (a ++ drop (length b) p)) (cond (is_prefix a p) None (row_at t.rows p))) off
        ∙ ap (λ (c : Bool). cond c None (row_at t.rows p)) out

-- a directory that becomes a zone

kept-row : (es : List Entry) (p : List (List ℕ)) (id : ℕ) (kind : Kind) → is_dir kind ≡ true → is_dir_at (row_at es p) ≡ true
    → (id_of (row_at (set_kind es id kind) p) ≡ id_of (row_at es p)) × (is_dir_at (row_at (set_kind es id kind) p) ≡ true)
kept-row [] p id kind dir h = absurd cc
kept-row (x ∷ es) p id kind dir h =
    subst (λ (q : List (List ℕ)). (id_of (cond (same_path q p) (Some (with_kind id kind x).row) (row_at (set_kind es id kind) p)) ≡ id_of (row_at (x ∷ es) p))
    × (is_dir_at (cond (same_path q p) (Some (with_kind id kind x).row) (row_at (set_kind es id kind) p)) ≡ true))
    (sym (kind-path id kind x)) (go (same_path x.path p) h (kept-row es p id kind dir))
  where
    of-dir : (b : Bool) → is_dir x.row.kind ≡ true → is_dir (cond b (record x { row = record { id = id; kind = kind } }) x).row.kind ≡ true
    of-dir true h = dir
    of-dir false h = h

    go : (b : Bool) → is_dir_at (cond b (Some x.row) (row_at es p)) ≡ true
        → (is_dir_at (row_at es p) ≡ true → (id_of (row_at (set_kind es id kind) p) ≡ id_of (row_at es p)) × (is_dir_at (row_at (set_kind es id kind) p) ≡ true))
        → (id_of (cond b (Some (with_kind id kind x).row) (row_at (set_kind es id kind) p)) ≡ id_of (cond b (Some x.row) (row_at es p)))
        × (is_dir_at (cond b (Some (with_kind id kind x).row) (row_at (set_kind es id kind) p)) ≡ true)
    go true h rest = (kind-id id kind x, of-dir (x.row.id == id) h)
    go false h rest = rest h

-- an id is that of the row at the path
abbrev OnlyAt : List (List ℕ) → ℕ → List Entry → Type 0
OnlyAt p id es = All (λ (e : Entry). e.row.id ≡ id → e.path ≡ p) es

only-there : (rows : List Entry) (p : List (List ℕ)) (row : Row) → IsRows rows → row_at rows p ≡ Some row → OnlyAt p row.id rows
only-there rows p row good stands i d b is =
    let at = entry-at rows p row good stands in
    path-of (sym (good.once i d b) ∙ ap (entry_of rows) is ∙ at.2) at.3
  where
    path-of : {e f : Entry} → Some e ≡ Some f → f.path ≡ p → e.path ≡ p
    path-of {e} {f} h k = let same : e ≡ f = cc in ap (λ (x : Entry). x.path) same ∙ k

-- another row with another kind is no zone of the path
zone-beside : (es : List Entry) (p q : List (List ℕ)) (id : ℕ) (kind : Kind) → OnlyAt q id es → is_prefix q p ≡ false → zone_of (set_kind es id kind) p ≡ zone_of es p
zone-beside [] p q id kind only out = refl
zone-beside (x ∷ es) p q id kind only out =
    go (x.row.id == id) refl (zone-beside es p q id kind (All-tail (λ (e : Entry). e.row.id ≡ id → e.path ≡ q) x es only) out)
  where
    never : (m b : Bool) → b ≡ false → (m && b) ≡ false
    never true b h = h
    never false b h = refl

    over : (e : Entry) → e.path ≡ x.path → x.row.id ≡ id → is_zone_over p e ≡ false
    over e same is = never (is_marked e.row) (is_prefix e.path p) (ap (λ (y : List (List ℕ)). is_prefix y p) (same ∙ All-head (λ (e : Entry). e.row.id ≡ id → e.path ≡ q) x es only is) ∙ out)

    go : (b : Bool) → (x.row.id == id) ≡ b → zone_of (set_kind es id kind) p ≡ zone_of es p → zone_of ((cond b (record x { row = record { id = id; kind = kind } }) x) ∷ set_kind es id kind) p ≡ zone_of (x ∷ es) p
    go true is rest =
        ap (λ (c : Bool). cond c (Some (longer (record x { row = record { id = id; kind = kind } }) (zone_of (set_kind es id kind) p))) (zone_of (set_kind es id kind) p))
        (over (record x { row = record { id = id; kind = kind } }) refl (eqb-true x.row.id id is))
        ∙ rest ∙ ap (λ (c : Bool). cond c (Some (longer x (zone_of es p))) (zone_of es p)) (sym (over x refl (eqb-true x.row.id id is)))
    go false is rest = ap (λ (o : Option Entry). cond (is_zone_over p x) (Some (longer x o)) o) rest

-- the parent of a path

parent-shorter : (x : List ℕ) (p : List (List ℕ)) → length p ≡ length (parent (x ∷ p))
parent-shorter x [] = refl
parent-shorter x (y ∷ p) = ap suc (parent-shorter y p)

parent-prefix : (p : List (List ℕ)) → is_prefix (parent p) p ≡ true
parent-prefix [] = refl
parent-prefix (x ∷ []) = refl
parent-prefix (x ∷ y ∷ p) = and_from (bytes_eq x x) (is_prefix (parent (y ∷ p)) (y ∷ p)) ((bytes_eq-Decides x x).1 refl) (parent-prefix (y ∷ p))

same-length : (a b : ℕ) → a ≡ b → (suc a == b + 1) ≡ true
same-length a b h = grind (arith, nat_tests, h)

child-of-parent : (x : List ℕ) (p : List (List ℕ)) → is_child (parent (x ∷ p)) (x ∷ p) ≡ true
child-of-parent x p = and_from (is_prefix (parent (x ∷ p)) (x ∷ p)) (length (x ∷ p) == length (parent (x ∷ p)) + 1) (parent-prefix (x ∷ p)) (same-length (length p) (length (parent (x ∷ p))) (parent-shorter x p))

any-at : (f : List (List ℕ) → Bool) (es : List Entry) (p : List (List ℕ)) → is_dir_at (row_at es p) ≡ true → f p ≡ true → list_any (λ (e : Entry). f e.path) es ≡ true
any-at f [] p h at = absurd cc
any-at f (x ∷ es) p h at = go (same_path x.path p) refl h (any-at f es p)
  where
    either : (b : Bool) → list_any (λ (e : Entry). f e.path) es ≡ true → (b || list_any (λ (e : Entry). f e.path) es) ≡ true
    either true h = refl
    either false h = h

    go : (b : Bool) → same_path x.path p ≡ b → is_dir_at (cond b (Some x.row) (row_at es p)) ≡ true → (is_dir_at (row_at es p) ≡ true → f p ≡ true → list_any (λ (e : Entry). f e.path) es ≡ true)
        → (f x.path || list_any (λ (e : Entry). f e.path) es) ≡ true
    go true is h rest = ap (λ (c : Bool). c || list_any (λ (e : Entry). f e.path) es) (ap f (same-is x.path p is) ∙ at)
    go false is h rest = either (f x.path) (rest h at)

parent-dir : (rows es : List Entry) (p : List (List ℕ)) → All (λ (e : Entry). is_dir_at (row_at rows (parent e.path)) ≡ true) es → is_dir_at (row_at es p) ≡ true → is_dir_at (row_at rows (parent p)) ≡ true
parent-dir rows [] p all h = absurd cc
parent-dir rows (x ∷ es) p all h = go (same_path x.path p) refl h (parent-dir rows es p (All-tail (λ (e : Entry). is_dir_at (row_at rows (parent e.path)) ≡ true) x es all))
  where
    go : (b : Bool) → same_path x.path p ≡ b → is_dir_at (cond b (Some x.row) (row_at es p)) ≡ true → (is_dir_at (row_at es p) ≡ true → is_dir_at (row_at rows (parent p)) ≡ true) → is_dir_at (row_at rows (parent p)) ≡ true
    go true is h rest = ap (λ (y : List (List ℕ)). is_dir_at (row_at rows (parent y))) (sym (same-is x.path p is)) ∙ All-head (λ (e : Entry). is_dir_at (row_at rows (parent e.path)) ≡ true) x es all
    go false is h rest = rest h

-- a directory without children is not the parent of one
no-parent : (rows : List Entry) (q : List (List ℕ)) (x : List ℕ) (p : List (List ℕ)) → has_children rows q ≡ false → is_dir_at (row_at rows (x ∷ p)) ≡ true → same_path q (parent (x ∷ p)) ≡ false
no-parent rows q x p none dir = go (same_path q (parent (x ∷ p))) refl
  where
    go : (b : Bool) → same_path q (parent (x ∷ p)) ≡ b → b ≡ false
    go true is =
        let child : is_child q (x ∷ p) ≡ true = ap (λ (y : List (List ℕ)). is_child y (x ∷ p)) (same-is q (parent (x ∷ p)) is) ∙ child-of-parent x p in
        let f : true ≡ false = sym (any-at (is_child q) rows (x ∷ p) dir child) ∙ none in absurd cc
    go false is = refl

-- nor above another one
childless : (rows : List Entry) (q : List (List ℕ)) (k : ℕ) (p : List (List ℕ)) → IsRows rows → has_children rows q ≡ false → length p ≤ k → is_dir_at (row_at rows p) ≡ true → same_path q p ≡ false
    → is_prefix q p ≡ false
childless rows q k [] good none short dir apart = root q apart
  where
    root : (q : List (List ℕ)) → same_path q [] ≡ false → is_prefix q [] ≡ false
    root [] h = absurd cc
    root (y ∷ q) h = refl
childless rows q zero (x ∷ p) good none short dir apart = absurd (omega (arith, short))
childless rows q (suc k) (x ∷ p) good none short dir apart =
    prefix-parent q (x ∷ p) apart
    ∙ childless rows q k (parent (x ∷ p)) good none (let size = parent-shorter x p in omega (arith, short, size)) (parent-dir rows rows (x ∷ p) good.housed dir) (no-parent rows q x p none dir)

-- the zone over a directory stays when a directory without children becomes a zone
zone-over-stays : (rows : List Entry) (q : List (List ℕ)) (id : ℕ) (kind : Kind) (p : List (List ℕ)) → IsRows rows → OnlyAt q id rows → has_children rows q ≡ false → is_dir_at (row_at rows p) ≡ true
    → zone_over (set_kind rows id kind) p ≡ zone_over rows p
zone-over-stays rows q id kind [] good only none dir = refl
zone-over-stays rows q id kind (x ∷ p) good only none dir = over-by (set_kind rows id kind) rows (x ∷ p) (zone-beside rows (parent (x ∷ p)) q id kind only out)
  where
    out : is_prefix q (parent (x ∷ p)) ≡ false
    out = childless rows q (length (parent (x ∷ p))) (parent (x ∷ p)) good none (omega arith) (parent-dir rows rows (x ∷ p) good.housed dir) (no-parent rows q x p none dir)

same-zone : (t : NameTable) (p q : List (List ℕ)) (key : KeyName) (name : List ℕ) → IsRows t.rows → IsRead t p name → IsMarkable t.rows q → IsSame t (after_table t (op.Zone q key)) p
same-zone t p q key name good r may =
    record { id = kept.0; dir = kept.1; zone = zone-over-stays t.rows q (id_at t.rows q) (Dir (Some key)) p good only may.empty r.dir; allowed = r.allowed }
  where
    kept : (id_of (row_at (set_kind t.rows (id_at t.rows q) (Dir (Some key))) p) ≡ id_at t.rows p) × (is_dir_at (row_at (set_kind t.rows (id_at t.rows q) (Dir (Some key))) p) ≡ true)
    kept = kept-row t.rows p (id_at t.rows q) (Dir (Some key)) refl r.dir

    only : OnlyAt q (id_at t.rows q) t.rows
    only = there (row_at t.rows q) refl may.dir
      where
        there : (o : Option Row) → row_at t.rows q ≡ o → is_dir_at o ≡ true → OnlyAt q (id_of o) t.rows
        there None is h = absurd cc
        there (Some row) is h = only-there t.rows q row good is

-- the directories that may have snapshots

among-put : (ids : List ℕ) (x id : ℕ) → is_among ids id ≡ true → is_among (put_by nat_cmp x ids) id ≡ true
among-put [] x id h = absurd cc
among-put (i ∷ ids) x id h = go (is_lt (nat_cmp x i)) (among-put ids x id)
  where
    either : (b c : Bool) → c ≡ true → (b || c) ≡ true
    either true c h = refl
    either false c h = h

    keep : (b : Bool) → (b || is_among ids id) ≡ true → (is_among ids id ≡ true → is_among (put_by nat_cmp x ids) id ≡ true) → (b || is_among (put_by nat_cmp x ids) id) ≡ true
    keep true h rest = refl
    keep false h rest = rest h

    go : (b : Bool) → (is_among ids id ≡ true → is_among (put_by nat_cmp x ids) id ≡ true) → is_among (cond b (x ∷ i ∷ ids) (i ∷ put_by nat_cmp x ids)) id ≡ true
    go true rest = either (x == id) (is_among (i ∷ ids) id) h
    go false rest = keep (i == id) h rest

among-with : (ids : List ℕ) (x id : ℕ) → is_among ids id ≡ true → is_among (with_id x ids) id ≡ true
among-with ids x id h = go (is_among ids x)
  where
    go : (b : Bool) → is_among (cond b ids (put_by nat_cmp x ids)) id ≡ true
    go true = h
    go false = among-put ids x id h

among-without : (t : NameTable) (p q : List (List ℕ)) (name : List ℕ) → IsRows t.rows → IsRead t p name → first_cause (disallow_causes t.rows t.snaps q) ≡ None → is_among (without_id (id_at t.rows q) t.snaps.allowed) (id_at t.rows p) ≡ true
among-without t p q name good r free = among-kept (λ (i : ℕ). not (i == id_at t.rows q)) t.snaps.allowed (id_at t.rows p) (ap not (apart (id_at t.rows p == id_at t.rows q) refl)) r.allowed
  where
    may : IsDisallowable t.rows t.snaps q
    may = disallowable t.rows t.snaps q free

    at : (dir : Entry) × (entry_of t.rows (id_at t.rows q) ≡ Some dir) × (dir.path ≡ q) × (is_dir dir.row.kind ≡ true)
    at = directory-entry t.rows q good may.dir

    itself : at_or_below t.rows (id_at t.rows q) q ≡ true
    itself = ap (λ (o : Option Entry). option_map_or (λ (e : Entry). is_prefix q e.path) o false) at.1 ∙ ap (is_prefix q) at.2 ∙ prefix-itself q

    apart : (b : Bool) → (id_at t.rows p == id_at t.rows q) ≡ b → b ≡ false
    apart true is =
        let f : true ≡ false = sym itself ∙ ap (λ (id : ℕ). at_or_below t.rows id q) (sym (eqb-true (id_at t.rows p) (id_at t.rows q) is)) ∙ (apart-from t p q name good r may.none).0 in absurd cc
    apart false is = refl

-- after each operation

same-after : (t : NameTable) (o : EditOp) (p : List (List ℕ)) (name : List ℕ) → IsNameTable t → allows t o ≡ true → IsRead t p name → IsSame t (after_table t o) p
same-after t (op.Opened opening) p name good may r = same-rows t (after_table t (op.Opened opening)) p r.dir refl refl r.allowed
same-after t (op.Mkdir id q) p name good may r =
    same-put t p (new_directory id q) r.dir r.allowed refl (makeable t.rows q (none-of-both (make_causes t.rows q) (row_causes t.rows) (allowed t (op.Mkdir id q) refl may).free).0).absent
same-after t (op.File id q edek) p name good may r =
    same-put t p (new_file id q edek) r.dir r.allowed refl (makeable t.rows q (none-of-both (make_causes t.rows q) (row_causes t.rows) (allowed t (op.File id q edek) refl may).free).0).absent
same-after t (op.Remove q) p name good may r =
    let none = holds-none t.rows t.snaps q (none-of-both (removal_causes t.rows q) (kept_causes t.rows t.snaps q) (allowed t (op.Remove q) refl may).free).1 in
    let out = apart-from t p q name good.rules r none in
    same-rows t (after_table t (op.Remove q)) p r.dir (other-row q p t.rows out.1) (other-zone q (parent p) t.rows (off-parent q p out.1))
    (among-kept (λ (id : ℕ). not (at_or_below t.rows id q)) t.snaps.allowed (id_at t.rows p) (ap not out.0) r.allowed)
same-after t (op.Rename a b) p name good may r =
    let free = renamable t.rows t.snaps t.statuses a b (allowed t (op.Rename a b) refl may).free in
    same-rename t p a b good.rules free.can (apart-from t p a name good.rules r free.none).1 r.dir r.allowed
same-after t (op.Zone q key) p name good may r = same-zone t p q key name good.rules r (markable t.rows q (allowed t (op.Zone q key) refl may).free)
same-after t (op.Allow q) p name good may r = same-rows t (after_table t (op.Allow q)) p r.dir refl refl (among-with t.snaps.allowed (id_at t.rows q) (id_at t.rows p) r.allowed)
same-after t (op.Disallow q) p name good may r =
    same-rows t (after_table t (op.Disallow q)) p r.dir refl refl (among-without t p q name good.rules r (allowed t (op.Disallow q) refl may).free)
same-after t (op.Snap q n) p name good may r = same-rows t (after_table t (op.Snap q n)) p r.dir refl refl r.allowed
same-after t (op.Unsnap q n) p name good may r = same-rows t (after_table t (op.Unsnap q n)) p r.dir refl refl r.allowed
same-after t (op.Submit session q noted) p name good may r = same-rows t (after_table t (op.Submit session q noted)) p r.dir refl refl r.allowed
same-after t (op.Update session failed mark files) p name good may r =
    let files-are = all-files t session files good.rules (and_parts (ids_once files) (list_all (may_update t session) files) (allowed t (op.Update session failed mark files) refl may).fits).1 in
    same-rows t (after_table t (op.Update session failed mark files)) p r.dir (row-edeks files t.rows p files-are r.dir) (zone-edeks files t.rows (parent p) files-are) r.allowed
same-after t (op.Cancel session) p name good may r = same-rows t (after_table t (op.Cancel session)) p r.dir refl refl r.allowed
same-after t (op.Complete session) p name good may r = same-rows t (after_table t (op.Complete session)) p r.dir refl refl r.allowed

-- what is answered

dir-free : (o : Option Row) → is_dir_at o ≡ true → first_cause ((is_none o, refusal.NoSuchPath) ∷ (not (is_dir_at o), refusal.NotADirectory) ∷ []) ≡ None
dir-free None h = absurd cc
dir-free (Some row) h = ap (λ (b : Bool). cond (not b) (Some refusal.NotADirectory) None) h

readable : (t t' : NameTable) (p : List (List ℕ)) (name : List ℕ) (was : Snapshot) → IsSame t t' p → snapshot_named t'.snaps.taken (id_at t.rows p) name ≡ Some was → first_cause (unsnap_causes t'.rows t'.snaps p name) ≡ None
readable t t' p name was same named =
    none-of-join (directory_causes t'.rows p) (allowed_causes t'.rows t'.snaps p ++ missing t' p name) (dir-free (row_at t'.rows p) same.dir)
    (none-of-join (allowed_causes t'.rows t'.snaps p) (missing t' p name)
    (ap (λ (id : ℕ). cond (not (is_among t'.snaps.allowed id)) (Some refusal.NotSnapshottable) None) same.id ∙ ap (λ (b : Bool). cond (not b) (Some refusal.NotSnapshottable) None) same.allowed)
    (ap (λ (id : ℕ). cond (is_none (snapshot_named t'.snaps.taken id name)) (Some refusal.NoSuchSnapshot) None) same.id
    ∙ ap (λ (o : Option Snapshot). cond (is_none o) (Some refusal.NoSuchSnapshot) None) named))

same-snapshot : (t t' : NameTable) (p : List (List ℕ)) (name : List ℕ) (was : Snapshot) → IsSame t t' p → snapshot_named t.snaps.taken (id_at t.rows p) name ≡ Some was
    → snapshot_named t'.snaps.taken (id_at t.rows p) name ≡ Some was → snapshot_rows t' p name ≡ snapshot_rows t p name
same-snapshot t t' p name was same named named' =
    ap (λ (id : ℕ). rows_in t'.snaps.taken id name) same.id ∙ ap (λ (o : Option Snapshot). option_map_or (λ (s : Snapshot). s.rows) o []) (named' ∙ sym named)

same-path-of-zone : (t t' : NameTable) (p : List (List ℕ)) (o : Option Entry) → IsSame t t' p → zone_in_or_above t'.rows p o ≡ zone_in_or_above t.rows p o
same-path-of-zone t t' p None same = same.zone
same-path-of-zone t t' p (Some e) same = refl

pub snapshots_tell_the_same : SnapshotsTellTheSame
snapshots_tell_the_same t o p name below good may keeps free = (info, list)
  where
    r : IsRead t p name
    r = is-read t p name free

    same : IsSame t (after_table t o) p
    same = same-after t o p name good may r

    named : snapshot_named (after_table t o).snaps.taken (id_at t.rows p) name ≡ Some r.was
    named = stays t o (id_at t.rows p) name r.was may keeps r.named

    free' : first_cause (unsnap_causes (after_table t o).rows (after_table t o).snaps p name) ≡ None
    free' = readable t (after_table t o) p name r.was same named

    rows : snapshot_rows (after_table t o) p name ≡ snapshot_rows t p name
    rows = same-snapshot t (after_table t o) p name r.was same r.named named

    info : info_answer (after_table t o) (as_it_was p name below) ≡ info_answer t (as_it_was p name below)
    info =
        ap (λ (why : Option NameRefusal). answer_unless why (info_reply (after_table t o) (as_it_was p name below)))
        (behind-none (unsnap_causes (after_table t o).rows (after_table t o).snaps p name) (entry_causes (snapshot_rows (after_table t o) p name) below) free')
        ∙ ap (λ (es : List Entry). answer_unless (first_cause (entry_causes es below)) (shown_at (zone_in_or_above (after_table t o).rows p (zone_of es below)) (row_at es below))) rows
        ∙ ap (λ (path : Option (List (List ℕ))). answer_unless (first_cause (entry_causes (snapshot_rows t p name) below)) (shown_at path (row_at (snapshot_rows t p name) below)))
        (same-path-of-zone t (after_table t o) p (zone_of (snapshot_rows t p name) below) same)
        ∙ sym (ap (λ (why : Option NameRefusal). answer_unless why (info_reply t (as_it_was p name below)))
        (behind-none (unsnap_causes t.rows t.snaps p name) (entry_causes (snapshot_rows t p name) below) free))

    list : list_answer (after_table t o) (as_it_was p name below) ≡ list_answer t (as_it_was p name below)
    list =
        ap (λ (why : Option NameRefusal). answer_unless why (list_reply (after_table t o) (as_it_was p name below)))
        (behind-none (unsnap_causes (after_table t o).rows (after_table t o).snaps p name) (directory_causes (snapshot_rows (after_table t o) p name) below) free')
        ∙ ap (λ (es : List Entry). answer_unless (first_cause (directory_causes es below)) (reply.List (children es below))) rows
        ∙ sym (ap (λ (why : Option NameRefusal). answer_unless why (list_reply t (as_it_was p name below)))
        (behind-none (unsnap_causes t.rows t.snaps p name) (directory_causes (snapshot_rows t p name) below) free))
