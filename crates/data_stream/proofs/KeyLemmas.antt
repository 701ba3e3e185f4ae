-- The key with which a file is opened is that of its draw.
use Rattle.std.proofs.Common.{◌≡◌, ℕ, List, [], ◌∷◌, refl, sym, ap, subst, ◌∙◌, inl, inr}
use Rattle.std.specs.Prelude.{Option, Some, None}
use Rattle.hk_base.specs.declared.names.Dek.{Dek}
use Rattle.hk_base.specs.declared.names.Edek.{Edek}
use Rattle.hk_base.specs.declared.names.Iv.{Iv}
use Rattle.inode_tree.specs.Rows.{Entry, row_at}
use Rattle.inode_tree.specs.declared.rows.Kind.TheVariants.{File}
use Rattle.inode_tree.specs.declared.rows.Row.{Row}
use Rattle.key_rows.specs.declared.rows.KeyRow.{KeyRow}
use Rattle.kms_core.specs.Opening.{unseals}
use Rattle.name_calls.specs.declared.paths.NPath.{NPath}
use Rattle.name_calls.specs.declared.read_paths.SnapPart.{SnapPart}
use Rattle.name_core.specs.Reads.{path_of_part, rows_of_part}
use Rattle.name_store.specs.Causes.{id_at}
use Rattle.name_store.specs.Table.{NameTable, kept_rows, rows_of_entries, snapped_rows}
use Rattle.snap_store.specs.Snapshots.{Snapshot, is_named, snapshot_named}
use Rattle.body_stream.specs.Forms.{stored_form}
use Rattle.body_stream.specs.declared.keys.BodyKey.{BodyKey}
use Rattle.world_run.specs.Ledger.{Draw, Past}
use Rattle.world_run.specs.Promise.{FilesOpen, In, edek_of}
use Rattle.world_run.specs.World.{WorldState}
use Rattle.world_run.proofs.Members.{found-in, in-left, in-right}
use Rattle.world_run.proofs.RowLemmas.{member-at}
use Rattle.data_stream.specs.Bodies.{IsDrawOf, IsFileAt, stored_of}

-- ---- a file that a path names is kept

row_in : (x : Entry) (rows : List Entry) (row : Row) → In x rows → x.row ≡ row → In row (rows_of_entries rows)
row_in x [] row i e = absurd i
row_in x (y ∷ rows) row (inl same) e = inl (sym e ∙ ap (λ (z : Entry). z.row) same)
row_in x (y ∷ rows) row (inr i) e = inr (row_in x rows row i e)

named_in : (rows : List Entry) (p : List (List ℕ)) (row : Row) → row_at rows p ≡ Some row → In row (rows_of_entries rows)
named_in rows p row at = let m = member-at rows p row at in row_in m.0 rows row m.1 m.3

snapped_in : (s : Snapshot) (taken : List Snapshot) (row : Row) → In s taken → In row (rows_of_entries s.rows) → In row (snapped_rows taken)
snapped_in s [] row i r = absurd i
snapped_in s (t ∷ taken) row (inl same) r = in-left row (rows_of_entries t.rows) (snapped_rows taken) (subst (λ (x : Snapshot). In row (rows_of_entries x.rows)) same r)
snapped_in s (t ∷ taken) row (inr i) r = in-right row (rows_of_entries t.rows) (snapped_rows taken) (snapped_in s taken row i r)

kept_in_part : (t : NameTable) (p : NPath) (part : Option SnapPart) (row : Row) → row_at (rows_of_part t p part) (path_of_part p part) ≡ Some row → In row (kept_rows t)
kept_in_part t p None row at = in-left row (rows_of_entries t.rows) (snapped_rows t.snaps.taken) (named_in t.rows p row at)
kept_in_part t p (Some part) row at = go (snapshot_named t.snaps.taken (id_at t.rows p) part.name) refl at
  where
    rows_of : Option Snapshot → List Entry
    rows_of None = []
    rows_of (Some s) = s.rows

    go : (s : Option Snapshot) → snapshot_named t.snaps.taken (id_at t.rows p) part.name ≡ s → row_at (Rattle.std.specs.Option.option_map_or (λ (x : Snapshot). x.rows) s []) part.below ≡ Some row → In row (kept_rows t)
    go None is found = absurd cc
    go (Some s) is found =
        in-right row (rows_of_entries t.rows) (snapped_rows t.snaps.taken)
        (snapped_in s t.snaps.taken row (found-in (is_named (id_at t.rows p) part.name) t.snaps.taken s is) (named_in s.rows part.below row found))

pub kept_at : (w : WorldState) (path : List ℕ) (file : Row) → IsFileAt w path file → In file (kept_rows w.names.names.table)
kept_at w path file at = kept_in_part w.names.names.table at.place.path at.place.snapshot file at.at

-- ---- its key

-- the key with which a file of this kind is opened: none, or the data key that its encrypted key opens to
abbrev pub IsKeyOf : List KeyRow → Option Edek → Option BodyKey → Type 0
IsKeyOf keys None key = key ≡ None
IsKeyOf keys (Some edek) key = (dek : Dek) × (key ≡ Some (record { dek = dek; iv = edek.iv })) × ((d : Dek) → unseals keys edek ≡ Some d → dek ≡ d)

abbrev pub key_of_draw : Option Draw → Option BodyKey
key_of_draw None = None
key_of_draw (Some draw) = Some (record { dek = draw.dek; iv = draw.iv })

pub form_of_draw : (draw : Option Draw) (bytes : List ℕ) → stored_form (key_of_draw draw) 0 bytes ≡ stored_of draw bytes
form_of_draw None bytes = refl
form_of_draw (Some draw) bytes = refl

abbrev key_with : Dek → Iv → Option BodyKey
key_with dek iv = Some (record { dek = dek; iv = iv })

pub key_at : (dek dek' : Dek) (iv iv' : Iv) → dek ≡ dek' → iv ≡ iv' → key_with dek iv ≡ key_with dek' iv'
key_at dek dek' iv iv' e f = λ i. key_with (e i) (f i)

pub none_is_some : (edek : Edek) → None ≡ Some edek → ⊥
none_is_some edek e = cc

module _ (known : Past) (keys : List KeyRow) (names : NameTable) (opens : FilesOpen known keys names) (file : Row) (kept : In file (kept_rows names)) (edek : Option Edek) (kind_is : file.kind ≡ File edek) (key : Option BodyKey)
    (is : IsKeyOf keys edek key) where
  edek_is : edek_of file.kind ≡ edek
  edek_is = ap edek_of kind_is

  drawn : (given : Option Edek) → edek ≡ given → IsKeyOf keys given key → (draw : Option Draw) → IsDrawOf known keys file draw → key ≡ key_of_draw draw
  drawn None e none None of = none
  drawn None e none (Some draw) of = absurd (none_is_some of.0 (sym (edek_is ∙ e) ∙ of.1))
  drawn (Some own) e some None of = let bad : Some own ≡ None = sym (edek_is ∙ e) ∙ of in absurd cc
  drawn (Some own) e some (Some draw) of =
      let o = opens.open_up file own kept (edek_is ∙ e) in
      let same : o.draw ≡ draw = opens.one_draw file.id o.draw draw o.entered of.2 in
      let opened = o.opens of.3 of.4 (of.5 ∙ ap (λ (d : Draw). d.birth) (sym same)) in
      some.1 ∙ key_at some.0 draw.dek own.iv draw.iv (some.2 o.draw.dek opened.1 ∙ ap (λ (d : Draw). d.dek) same) (o.carries ∙ ap (λ (d : Draw). d.iv) same)

  pub form_is : (draw : Option Draw) → IsDrawOf known keys file draw → (bytes : List ℕ) → stored_form key 0 bytes ≡ stored_of draw bytes
  form_is draw of bytes = ap (λ (k : Option BodyKey). stored_form k 0 bytes) (drawn edek refl is draw of) ∙ form_of_draw draw bytes
