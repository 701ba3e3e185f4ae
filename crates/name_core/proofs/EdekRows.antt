-- Rows whose files get other encrypted keys: directories and zones are the same.
use Rattle.std.proofs.Common.{◌≡◌, ℕ, ◌&&◌, Bool, true, false, cond, List, [], ◌∷◌, Option, Some, None, is_some, refl, sym, ap, ◌∙◌}
use Rattle.std.specs.Prelude.{◌==◌}
use Rattle.std.specs.List.{AllByRecursion, list_all}
use Rattle.std.specs.Option.{option_map_or}
use Rattle.std.proofs.lemmas.List.Elements.{recursion_from_All}
use Rattle.std.proofs.lemmas.Bool.{eqb-true, and_parts}
use Rattle.hk_base.specs.declared.names.Edek.{Edek}
use Rattle.edit_ops.specs.declared.files.FileKey.{FileKey}
use Rattle.name_calls.specs.Paths.{is_prefix, same_path}
use Rattle.inode_tree.specs.declared.rows.Kind.{Kind}
use Rattle.inode_tree.specs.declared.rows.Kind.TheVariants.{Dir, File}
use Rattle.inode_tree.specs.Rows.{Entry, IsRows, entry_of, is_dir, is_dir_at, is_marked, is_zone_over, longer, row_at, set_kind, with_kind, zone_of}
use Rattle.inode_tree.specs.ZoneFiles.{edek_of}
use Rattle.name_store.specs.Table.{NameTable, is_of_key, is_under, may_update, with_edeks}
use Rattle.name_core.proofs.ZoneLaws.{kind-path}

each : {X : Type 0} (P Q : X → Type 0) → ((x : X) → P x → Q x) → (xs : List X) → AllByRecursion P xs → AllByRecursion Q xs
each P Q f [] h = tt
each P Q f (x ∷ xs) h = (f x h.0, each P Q f xs h.1)

-- each row with the id is a file

abbrev pub IsFileAt : ℕ → Entry → Type 0
IsFileAt id e = (e.row.id == id) ≡ true → is_dir e.row.kind ≡ false

abbrev pub AreFiles : ℕ → List Entry → Type 0
AreFiles id rows = AllByRecursion (λ (e : Entry). IsFileAt id e) rows

abbrev pub AllFiles : List FileKey → List Entry → Type 0
AllFiles files rows = AllByRecursion (λ (f : FileKey). AreFiles f.id rows) files

unmarked : (id : ℕ) (kind : Kind) → is_dir kind ≡ false → is_marked (record { id = id; kind = kind }) ≡ false
unmarked id (Dir key) h = absurd cc
unmarked id (File edek) h = refl

over-none : (e : Entry) (p : List (List ℕ)) → is_dir e.row.kind ≡ false → is_zone_over p e ≡ false
over-none e p h = ap (λ (b : Bool). b && is_prefix e.path p) (unmarked e.row.id e.row.kind h)

-- one file

zone-edek : (n : ℕ) (edek : Option Edek) (rows : List Entry) (p : List (List ℕ)) → AreFiles n rows → zone_of (set_kind rows n (File edek)) p ≡ zone_of rows p
zone-edek n edek [] p h = refl
zone-edek n edek (x ∷ rows) p h = go (x.row.id == n) refl (zone-edek n edek rows p h.1)
  where
    go : (b : Bool) → (x.row.id == n) ≡ b → zone_of (set_kind rows n (File edek)) p ≡ zone_of rows p
        → zone_of ((cond b (record x { row = record { id = n; kind = File edek } }) x) ∷ set_kind rows n (File edek)) p ≡ zone_of (x ∷ rows) p
    go true is rest = rest ∙ ap (λ (b : Bool). cond b (Some (longer x (zone_of rows p))) (zone_of rows p)) (sym (over-none x p (h.0 is)))
    go false is rest = ap (λ (o : Option Entry). cond (is_zone_over p x) (Some (longer x o)) o) rest

row-edek : (n : ℕ) (edek : Option Edek) (rows : List Entry) (p : List (List ℕ)) → AreFiles n rows → is_dir_at (row_at rows p) ≡ true → row_at (set_kind rows n (File edek)) p ≡ row_at rows p
row-edek n edek [] p h dir = refl
row-edek n edek (x ∷ rows) p h dir =
    ap (λ (q : List (List ℕ)). cond (same_path q p) (Some (with_kind n (File edek) x).row) (row_at (set_kind rows n (File edek)) p)) (kind-path n (File edek) x)
    ∙ go (same_path x.path p) dir (row-edek n edek rows p h.1)
  where
    here : (b : Bool) → (x.row.id == n) ≡ b → is_dir x.row.kind ≡ true → Some (cond b (record x { row = record { id = n; kind = File edek } }) x).row ≡ Some x.row
    here true is d = let f : true ≡ false = sym d ∙ h.0 is in absurd cc
    here false is d = refl

    go : (b : Bool) → is_dir_at (cond b (Some x.row) (row_at rows p)) ≡ true → (is_dir_at (row_at rows p) ≡ true → row_at (set_kind rows n (File edek)) p ≡ row_at rows p)
        → cond b (Some (with_kind n (File edek) x).row) (row_at (set_kind rows n (File edek)) p) ≡ cond b (Some x.row) (row_at rows p)
    go true d rest = here (x.row.id == n) refl d
    go false d rest = rest d

files-stay : (n m : ℕ) (edek : Option Edek) (rows : List Entry) → AreFiles m rows → AreFiles m (set_kind rows n (File edek))
files-stay n m edek [] h = tt
files-stay n m edek (x ∷ rows) h = (go (x.row.id == n) refl, files-stay n m edek rows h.1)
  where
    go : (b : Bool) → (x.row.id == n) ≡ b → IsFileAt m (cond b (record x { row = record { id = n; kind = File edek } }) x)
    go true is = λ same. refl
    go false is = h.0

all-stay : (n : ℕ) (edek : Option Edek) (files : List FileKey) (rows : List Entry) → AllFiles files rows → AllFiles files (set_kind rows n (File edek))
all-stay n edek files rows h = each (λ (f : FileKey). AreFiles f.id rows) (λ (f : FileKey). AreFiles f.id (set_kind rows n (File edek))) (λ f k. files-stay n f.id edek rows k) files h

-- some files

pub zone-edeks : (files : List FileKey) (rows : List Entry) (p : List (List ℕ)) → AllFiles files rows → zone_of (with_edeks files rows) p ≡ zone_of rows p
zone-edeks [] rows p h = refl
zone-edeks (f ∷ files) rows p h =
    zone-edeks files (set_kind rows f.id (File (Some f.edek))) p (all-stay f.id (Some f.edek) files rows h.1) ∙ zone-edek f.id (Some f.edek) rows p h.0

pub row-edeks : (files : List FileKey) (rows : List Entry) (p : List (List ℕ)) → AllFiles files rows → is_dir_at (row_at rows p) ≡ true → row_at (with_edeks files rows) p ≡ row_at rows p
row-edeks [] rows p h dir = refl
row-edeks (f ∷ files) rows p h dir =
    let first = row-edek f.id (Some f.edek) rows p h.0 dir in
    row-edeks files (set_kind rows f.id (File (Some f.edek))) p (all-stay f.id (Some f.edek) files rows h.1) (ap is_dir_at first ∙ dir) ∙ first

-- those of an update that the table allows

is-file : (kind : Kind) → is_some (edek_of kind) ≡ true → is_dir kind ≡ false
is-file (Dir key) h = absurd cc
is-file (File edek) h = refl

pub updated-file : (t : NameTable) (session : ℕ) (f : FileKey) → IsRows t.rows → may_update t session f ≡ true → AreFiles f.id t.rows
updated-file t session f good may = go (entry_of t.rows f.id) refl may
  where
    go : (o : Option Entry) → entry_of t.rows f.id ≡ o → option_map_or (λ e. is_under t session e && is_of_key f e) o false ≡ true → AreFiles f.id t.rows
    go None is may = absurd cc
    go (Some e) is may =
        let under = (and_parts (is_under t session e) (is_of_key f e) may).0 in
        let dir : is_dir e.row.kind ≡ false = is-file e.row.kind (and_parts (is_some (edek_of e.row.kind)) _ under).0 in
        each (λ (x : Entry). entry_of t.rows x.row.id ≡ Some x) (λ (x : Entry). IsFileAt f.id x)
        (λ x once same.
        let found : Some x ≡ Some e = sym once ∙ ap (entry_of t.rows) (eqb-true x.row.id f.id same) ∙ is in
        let here : x ≡ e = cc in ap (λ (y : Entry). is_dir y.row.kind) here ∙ dir)
        t.rows (recursion_from_All (λ (x : Entry). entry_of t.rows x.row.id ≡ Some x) t.rows good.once)

pub all-files : (t : NameTable) (session : ℕ) (files : List FileKey) → IsRows t.rows → list_all (may_update t session) files ≡ true → AllFiles files t.rows
all-files t session [] good may = tt
all-files t session (f ∷ files) good may =
    let parts = and_parts (may_update t session f) (list_all (may_update t session) files) may in (updated-file t session f good parts.0, all-files t session files good parts.1)
