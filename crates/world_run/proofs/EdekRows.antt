-- The rows after files get other encrypted keys.
use Rattle.std.proofs.Common.{◌≡◌, ◌⊎◌, inl, inr, ℕ, Bool, true, false, cond, ◌&&◌, List, [], ◌∷◌, Option, Some, None, refl, sym, ap, subst, ◌∙◌, arith}
use Rattle.std.specs.Prelude.{◌==◌}
use Rattle.std.specs.List.{list_all}
use Rattle.std.specs.Option.{option_and_then, option_map, option_map_or}
use Rattle.std.specs.Str.{bytes_eq}
use Rattle.std.proofs.lemmas.Bool.Decides.{nat_tests}
use Rattle.std.proofs.lemmas.Slice.Eq.{bytes_eq-Decides}
use Rattle.std.proofs.lemmas.Bool.{and_parts}
use Rattle.hk_base.specs.declared.names.Edek.{Edek}
use Rattle.hk_base.specs.declared.names.KeyName.{KeyName}
use Rattle.inode_tree.specs.declared.rows.Kind.{Kind}
use Rattle.inode_tree.specs.declared.rows.Kind.TheVariants.{Dir, File}
use Rattle.inode_tree.specs.declared.rows.Row.{Row}
use Rattle.inode_tree.specs.Rows.{AllAfter, Entry, IsRising, entry_of, is_dir, is_dir_at, is_marked, is_zone_over, longer, mark_of, row_at, set_kind, with_kind, zone_of}
use Rattle.name_calls.specs.Paths.{is_before, is_prefix, parent, same_path}
use Rattle.edit_ops.specs.declared.files.FileKey.{FileKey}
use Rattle.inode_tree.specs.ZoneFiles.{edek_of}
use Rattle.name_store.specs.Table.{NameTable, ids_once, is_of_key, is_under, key_of_zone, may_update, rows_of_entries, with_edeks}
use Rattle.world_run.specs.Promise.{FitsZone, In}
use Rattle.world_run.proofs.KeptRows.{rows-from}
use Rattle.world_run.proofs.Members.{in-map, some-is}
use Rattle.world_run.proofs.RowLemmas.{InPlace}

-- the row of a file
abbrev pub file_row : ℕ → Edek → Row
file_row id edek = record { id = id; kind = File (Some edek) }

-- a file has the id, and its encrypted key is of the same key as the new one
pub record Replaces (rows : List Entry) (f : FileKey) : Type 0 where
  pub file : Entry
  pub edek : Edek
  pub stands : entry_of rows f.id ≡ Some file
  pub has : file.row.kind ≡ File (Some edek)
  pub of_key : f.edek.version.key ≡ edek.version.key

-- each of the files has one
abbrev pub AllReplace : List Entry → List FileKey → Type 0
AllReplace rows files = (f : FileKey) → In f files → Replaces rows f

-- each row with the id is a file of the key
abbrev pub AreFiles : List Entry → ℕ → KeyName → Type 0
AreFiles rows id key = (x : Entry) → In x rows → x.row.id ≡ id → (old : Edek) × (x.row.kind ≡ File (Some old)) × (key ≡ old.version.key)

-- no directory has the id
abbrev pub NoDirectory : List Entry → ℕ → Type 0
NoDirectory rows id = (x : Entry) → In x rows → x.row.id ≡ id → is_dir x.row.kind ≡ false

no-directory : (rows : List Entry) (id : ℕ) (key : KeyName) → AreFiles rows id key → NoDirectory rows id
no-directory rows id key files x i same = ap is_dir (files x i same).1

pub are-files : (rows : List Entry) (f : FileKey) → InPlace rows → Replaces rows f → AreFiles rows f.id f.edek.version.key
are-files rows f good r x i same =
    let is : r.file ≡ x = some-is r.file x (sym r.stands ∙ ap (entry_of rows) (sym same) ∙ good.once x i) in
    (r.edek, ap (λ (y : Entry). y.row.kind) (sym is) ∙ r.has, r.of_key)

-- so they do if the table allows an update
pub all-replace : (t : NameTable) (session : ℕ) (files : List FileKey) → (ids_once files && list_all (may_update t session) files) ≡ true → AllReplace t.rows files
all-replace t session files may = from files (and_parts (ids_once files) (list_all (may_update t session) files) may).1
  where
    of-row : (f : FileKey) (x : Entry) → entry_of t.rows f.id ≡ Some x → is_of_key f x ≡ true → Replaces t.rows f
    of-row f x found same = go x.row.kind refl same
      where
        go : (k : Kind) → x.row.kind ≡ k → option_map_or (λ (e : Edek). bytes_eq f.edek.version.key e.version.key) (edek_of k) false ≡ true → Replaces t.rows f
        go (Dir key) is same = absurd cc
        go (File None) is same = absurd cc
        go (File (Some old)) is same = record { file = x; edek = old; stands = found; has = is; of_key = (bytes_eq-Decides f.edek.version.key old.version.key).0 same }

    of-entry : (f : FileKey) (o : Option Entry) → entry_of t.rows f.id ≡ o → option_map_or (λ (e : Entry). is_under t session e && is_of_key f e) o false ≡ true → Replaces t.rows f
    of-entry f None found may = absurd cc
    of-entry f (Some x) found may = of-row f x found (and_parts (is_under t session x) (is_of_key f x) may).1

    from : (fs : List FileKey) → list_all (may_update t session) fs ≡ true → AllReplace t.rows fs
    from [] may f i = absurd i
    from (g ∷ gs) may f (inl is) = subst (Replaces t.rows) (sym is) (of-entry g (entry_of t.rows g.id) refl (and_parts (may_update t session g) (list_all (may_update t session) gs) may).0)
    from (g ∷ gs) may f (inr i) = from gs (and_parts (may_update t session g) (list_all (may_update t session) gs) may).1 f i

-- a row and its file's new key

module _ (id : ℕ) (edek : Edek) where
  abbrev rekeyed : Entry → Entry
  rekeyed x = with_kind id (File (Some edek)) x

  abbrev all_rekeyed : List Entry → List Entry
  all_rekeyed rows = set_kind rows id (File (Some edek))

  -- either the row has the id and gets the key, or it stays
  pub which-file : (x : Entry) → ((x.row.id ≡ id) × (rekeyed x ≡ record x { row = file_row id edek })) ⊎ (rekeyed x ≡ x)
  which-file x = go (x.row.id == id) refl
    where
      equal : (a b : ℕ) → (a == b) ≡ true → a ≡ b
      equal a b h = grind (arith, nat_tests)

      go : (b : Bool) → (x.row.id == id) ≡ b → ((x.row.id ≡ id) × (cond b (record x { row = file_row id edek }) x ≡ record x { row = file_row id edek })) ⊎ (cond b (record x { row = file_row id edek }) x ≡ x)
      go true h = inl (equal x.row.id id h, refl)
      go false h = inr refl

  pub path-rekeyed : (x : Entry) → (rekeyed x).path ≡ x.path
  path-rekeyed x = elim (which-file x) [ inl w ↦ ap (λ (y : Entry). y.path) w.1 | inr same ↦ ap (λ (y : Entry). y.path) same ]

  pub id-rekeyed : (x : Entry) → (rekeyed x).row.id ≡ x.row.id
  id-rekeyed x = elim (which-file x) [ inl w ↦ ap (λ (y : Entry). y.row.id) w.1 ∙ sym w.0 | inr same ↦ ap (λ (y : Entry). y.row.id) same ]

  -- a file becomes no directory
  pub dir-rekeyed : (x : Entry) → (x.row.id ≡ id → is_dir x.row.kind ≡ false) → is_dir (rekeyed x).row.kind ≡ is_dir x.row.kind
  dir-rekeyed x file = elim (which-file x) [
    | inl w ↦ ap (λ (y : Entry). is_dir y.row.kind) w.1 ∙ sym (file w.0)
    | inr same ↦ ap (λ (y : Entry). is_dir y.row.kind) same
  ]

  -- all rows

  after-rekeyed : (q : List (List ℕ)) (rows : List Entry) → AllAfter q rows → AllAfter q (all_rekeyed rows)
  after-rekeyed q [] a = tt
  after-rekeyed q (y ∷ ys) a = (ap (is_before q) (path-rekeyed y) ∙ a.0, after-rekeyed q ys a.1)

  rising-rekeyed : (rows : List Entry) → IsRising rows → IsRising (all_rekeyed rows)
  rising-rekeyed [] r = tt
  rising-rekeyed (y ∷ ys) r = (subst (λ (q : List (List ℕ)). AllAfter q (all_rekeyed ys)) (sym (path-rekeyed y)) (after-rekeyed y.path ys r.0), rising-rekeyed ys r.1)

  pub entry-rekeyed : (rows : List Entry) (j : ℕ) → entry_of (all_rekeyed rows) j ≡ option_map rekeyed (entry_of rows j)
  entry-rekeyed [] j = refl
  entry-rekeyed (y ∷ ys) j = ap (λ (n : ℕ). cond (n == j) (Some (rekeyed y)) (entry_of (all_rekeyed ys) j)) (id-rekeyed y) ∙ go (y.row.id == j) (entry-rekeyed ys j)
    where
      go : (b : Bool) → entry_of (all_rekeyed ys) j ≡ option_map rekeyed (entry_of ys j) → cond b (Some (rekeyed y)) (entry_of (all_rekeyed ys) j) ≡ option_map rekeyed (cond b (Some y) (entry_of ys j))
      go true ih = refl
      go false ih = ih

  dir-at-rekeyed : (rows : List Entry) (q : List (List ℕ)) → NoDirectory rows id → is_dir_at (row_at (all_rekeyed rows) q) ≡ is_dir_at (row_at rows q)
  dir-at-rekeyed [] q files = refl
  dir-at-rekeyed (y ∷ ys) q files =
      ap (λ (r : List (List ℕ)). is_dir_at (cond (same_path r q) (Some (rekeyed y).row) (row_at (all_rekeyed ys) q))) (path-rekeyed y)
      ∙ go (same_path y.path q) (dir-at-rekeyed ys q (λ x i. files x (inr i)))
    where
      go : (b : Bool) → is_dir_at (row_at (all_rekeyed ys) q) ≡ is_dir_at (row_at ys q) → is_dir_at (cond b (Some (rekeyed y).row) (row_at (all_rekeyed ys) q)) ≡ is_dir_at (cond b (Some y.row) (row_at ys q))
      go true ih = dir-rekeyed y (files y (inl refl))
      go false ih = ih

  pub rekeyed-in-place : (rows : List Entry) → NoDirectory rows id → InPlace rows → InPlace (all_rekeyed rows)
  rekeyed-in-place rows files good = record {
    rising = rising-rekeyed rows good.rising;
    once = λ x i.
        let y = in-map rekeyed x rows i in
        subst (λ (z : Entry). entry_of (all_rekeyed rows) z.row.id ≡ Some z) (sym y.2)
        (ap (entry_of (all_rekeyed rows)) (id-rekeyed y.0) ∙ entry-rekeyed rows y.0.row.id ∙ ap (option_map rekeyed) (good.once y.0 y.1));
    housed = λ x i.
        let y = in-map rekeyed x rows i in
        dir-at-rekeyed rows (parent x.path) files
        ∙ ap (λ (q : List (List ℕ)). is_dir_at (row_at rows (parent q))) (ap (λ (z : Entry). z.path) y.2 ∙ path-rekeyed y.0) ∙ good.housed y.0 y.1;
  }

  -- zones

  abbrev mark_of_zone : Option Entry → Option KeyName
  mark_of_zone zone = option_and_then (λ (z : Entry). mark_of z.row.kind) zone

  -- the zone of a path is that of the row that stays
  zone-rekeyed : (rows : List Entry) (q : List (List ℕ)) → AreFiles rows id edek.version.key → zone_of (all_rekeyed rows) q ≡ zone_of rows q
  zone-rekeyed [] q files = refl
  zone-rekeyed (y ∷ ys) q files = go (which-file y) (zone-rekeyed ys q (λ x i. files x (inr i)))
    where
      rest : List Entry
      rest = all_rekeyed ys

      go : ((y.row.id ≡ id) × (rekeyed y ≡ record y { row = file_row id edek })) ⊎ (rekeyed y ≡ y) → zone_of rest q ≡ zone_of ys q → zone_of (rekeyed y ∷ rest) q ≡ zone_of (y ∷ ys) q
      go (inl (same, is)) ih =
          let file = files y (inl refl) same in
          ap (λ (x : Entry). zone_of (x ∷ rest) q) is ∙ ih
          ∙ sym (ap (λ (k : Kind). cond (is_marked (record { id = y.row.id; kind = k }) && is_prefix y.path q) (Some (longer y (zone_of ys q))) (zone_of ys q)) file.1)
      go (inr is) ih = ap (λ (x : Entry). zone_of (x ∷ rest) q) is ∙ ap (λ z. cond (is_zone_over q y) (Some (longer y z)) z) ih

  pub key-rekeyed : (rows : List Entry) (q : List (List ℕ)) → AreFiles rows id edek.version.key → key_of_zone (all_rekeyed rows) q ≡ key_of_zone rows q
  key-rekeyed rows q files = ap mark_of_zone (zone-rekeyed rows q files)

-- what fits a zone fits it with another key of the same name
fits-rekeyed : (zone : Option KeyName) (kind : Kind) (old new : Edek) → kind ≡ File (Some old) → new.version.key ≡ old.version.key → FitsZone zone kind → FitsZone zone (File (Some new))
fits-rekeyed zone kind old new is same fits = go zone (subst (FitsZone zone) is fits)
  where
    go : (z : Option KeyName) → FitsZone z (File (Some old)) → FitsZone z (File (Some new))
    go None none = absurd cc
    go (Some key) of_key = same ∙ of_key

-- one file after another

-- an entry that is found is a row with the id
entry-in : (rows : List Entry) (id : ℕ) (x : Entry) → entry_of rows id ≡ Some x → In x rows × (x.row.id ≡ id)
entry-in [] id x h = absurd cc
entry-in (y ∷ ys) id x h = go (y.row.id == id) refl h (entry-in ys id x)
  where
    equal : (a b : ℕ) → (a == b) ≡ true → a ≡ b
    equal a b h = grind (arith, nat_tests)

    go : (b : Bool) → (y.row.id == id) ≡ b → cond b (Some y) (entry_of ys id) ≡ Some x → (entry_of ys id ≡ Some x → In x ys × (x.row.id ≡ id)) → In x (y ∷ ys) × (x.row.id ≡ id)
    go true same h ih = let is : y ≡ x = some-is y x h in (inl (sym is), ap (λ (z : Entry). z.row.id) (sym is) ∙ equal y.row.id id same)
    go false same h ih = let r = ih h in (inr r.0, r.1)

one-edek : (a b : Edek) → File (Some a) ≡ File (Some b) → a ≡ b
one-edek a b h = cc

-- each still has a file after another one got its key
still-replaces : (rows : List Entry) (f g : FileKey) → InPlace rows → Replaces rows f → Replaces rows g → Replaces (set_kind rows f.id (File (Some f.edek))) g
still-replaces rows f g good r s = go (which-file f.id f.edek s.file)
  where
    found : entry_of (set_kind rows f.id (File (Some f.edek))) g.id ≡ Some (with_kind f.id (File (Some f.edek)) s.file)
    found = entry-rekeyed f.id f.edek rows g.id ∙ ap (option_map (with_kind f.id (File (Some f.edek)))) s.stands

    go : ((s.file.row.id ≡ f.id) × (with_kind f.id (File (Some f.edek)) s.file ≡ record s.file { row = file_row f.id f.edek })) ⊎ (with_kind f.id (File (Some f.edek)) s.file ≡ s.file)
        → Replaces (set_kind rows f.id (File (Some f.edek))) g
    go (inl (same, is)) =
        let was = are-files rows f good r s.file (entry-in rows g.id s.file s.stands).0 same in
        record {
          file = record s.file { row = file_row f.id f.edek };
          edek = f.edek;
          stands = found ∙ ap Some is;
          has = refl;
          of_key = s.of_key ∙ ap (λ (e : Edek). e.version.key) (one-edek s.edek was.0 (sym s.has ∙ was.1)) ∙ sym was.2;
        }
    go (inr is) = record { file = s.file; edek = s.edek; stands = found ∙ ap Some is; has = s.has; of_key = s.of_key }

all-still : (rows : List Entry) (f : FileKey) (fs : List FileKey) → InPlace rows → AllReplace rows (f ∷ fs) → AllReplace (set_kind rows f.id (File (Some f.edek))) fs
all-still rows f fs good all g i = still-replaces rows f g good (all f (inl refl)) (all g (inr i))

pub edeks-in-place : (files : List FileKey) (rows : List Entry) → AllReplace rows files → InPlace rows → InPlace (with_edeks files rows)
edeks-in-place [] rows all good = good
edeks-in-place (f ∷ fs) rows all good =
    edeks-in-place fs (set_kind rows f.id (File (Some f.edek))) (all-still rows f fs good all)
    (rekeyed-in-place f.id f.edek rows (no-directory rows f.id f.edek.version.key (are-files rows f good (all f (inl refl)))) good)

-- each row still fits its zone

abbrev ZonesFit : List Entry → Type 0
ZonesFit rows = (x : Entry) → In x rows → FitsZone (key_of_zone rows x.path) x.row.kind

zones-rekeyed : (id : ℕ) (edek : Edek) (rows : List Entry) → AreFiles rows id edek.version.key → ZonesFit rows → ZonesFit (set_kind rows id (File (Some edek)))
zones-rekeyed id edek rows files zones x i =
    let y = in-map (with_kind id (File (Some edek))) x rows i in
    subst (λ (z : Entry). FitsZone (key_of_zone (set_kind rows id (File (Some edek))) z.path) z.row.kind) (sym y.2)
    (subst (λ (q : List (List ℕ)). FitsZone (key_of_zone (set_kind rows id (File (Some edek))) q) (with_kind id (File (Some edek)) y.0).row.kind) (sym (path-rekeyed id edek y.0))
    (subst (λ (k : Option KeyName). FitsZone k (with_kind id (File (Some edek)) y.0).row.kind) (sym (key-rekeyed id edek rows y.0.path files)) (fits y.0 y.1 (which-file id edek y.0))))
  where
    fits : (y : Entry) → In y rows → ((y.row.id ≡ id) × (with_kind id (File (Some edek)) y ≡ record y { row = file_row id edek })) ⊎ (with_kind id (File (Some edek)) y ≡ y)
        → FitsZone (key_of_zone rows y.path) (with_kind id (File (Some edek)) y).row.kind
    fits y j (inl (same, is)) =
        let was = files y j same in
        subst (λ (z : Entry). FitsZone (key_of_zone rows y.path) z.row.kind) (sym is) (fits-rekeyed (key_of_zone rows y.path) y.row.kind was.0 edek was.1 was.2 (zones y j))
    fits y j (inr is) = subst (λ (z : Entry). FitsZone (key_of_zone rows y.path) z.row.kind) (sym is) (zones y j)

pub zones-edeks : (files : List FileKey) (rows : List Entry) → AllReplace rows files → InPlace rows → ZonesFit rows → ZonesFit (with_edeks files rows)
zones-edeks [] rows all good zones = zones
zones-edeks (f ∷ fs) rows all good zones =
    let its = are-files rows f good (all f (inl refl)) in
    zones-edeks fs (set_kind rows f.id (File (Some f.edek))) (all-still rows f fs good all)
    (rekeyed-in-place f.id f.edek rows (no-directory rows f.id f.edek.version.key its) good) (zones-rekeyed f.id f.edek rows its zones)

-- each row was there before, or is that of one of the files

pub rows-rekeyed : (id : ℕ) (edek : Edek) (rows : List Entry) (row : Row) → In row (rows_of_entries (set_kind rows id (File (Some edek)))) → In row (rows_of_entries rows) ⊎ (row ≡ file_row id edek)
rows-rekeyed id edek rows row i =
    rows-from row rows (set_kind rows id (File (Some edek))) (row ≡ file_row id edek) (λ x j is. was x is (in-map (with_kind id (File (Some edek))) x rows j)) i
  where
    was : (x : Entry) → row ≡ x.row → (y : Entry) × In y rows × (x ≡ with_kind id (File (Some edek)) y) → (row ≡ file_row id edek) ⊎ In x rows
    was x is (y, j, same) = elim (which-file id edek y) [
      | inl w ↦ inl (is ∙ ap (λ (z : Entry). z.row) (same ∙ w.1))
      | inr stays ↦ inr (subst (λ (z : Entry). In z rows) (sym (same ∙ stays)) j)
    ]

pub rows-edeks : (files : List FileKey) (rows : List Entry) (row : Row) → In row (rows_of_entries (with_edeks files rows)) → In row (rows_of_entries rows) ⊎ ((f : FileKey) × In f files × (row ≡ file_row f.id f.edek))
rows-edeks [] rows row i = inl i
rows-edeks (f ∷ fs) rows row i = elim (rows-edeks fs (set_kind rows f.id (File (Some f.edek))) row i) [
  | inl before ↦ elim (rows-rekeyed f.id f.edek rows row before) [ inl old ↦ inl old | inr is ↦ inr (f, inl refl, is) ]
  | inr new ↦ inr (new.0, inr new.1, new.2)
]
