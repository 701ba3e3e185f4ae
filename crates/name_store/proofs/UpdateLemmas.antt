-- The rows after files got other encrypted keys: only these files change, and stay files.
use Rattle.std.proofs.Common.{◌≡◌, ℕ, ◌+◌, ◌<◌, Bool, true, false, cond, ◌&&◌, ◌==◌, List, [], ◌∷◌, length, drop, get_or, Option, Some, None, Result, Ok, Err, refl, sym, ap, ◌∙◌, subst}
use Rattle.std.specs.Prelude.{is_some, IfOk}
use Rattle.std.specs.List.{All, list_all}
use Rattle.std.specs.Option.{option_and_then, option_map, option_map_or}
use Rattle.std.proofs.lemmas.Bool.Decides.{Decides-eqb}
use Rattle.std.proofs.lemmas.List.{at_drop_more, drop_more}
use Rattle.std.proofs.lemmas.List.Elements.{All-head, All-map, All-tail, All-weaker}
use Rattle.std.specs.Str.{bytes_eq}
use Rattle.std.proofs.lemmas.Bool.{and_parts}
use Rattle.hk_base.specs.declared.names.Edek.{Edek}
use Rattle.hk_base.specs.declared.names.KeyName.{KeyName}
use Rattle.name_calls.specs.declared.paths.NPath.{NPath}
use Rattle.inode_tree.specs.declared.rows.Row.{Row}
use Rattle.inode_tree.specs.declared.rows.Kind.{Kind}
use Rattle.inode_tree.specs.declared.rows.Kind.TheVariants.{Dir, File}
use Rattle.inode_tree.specs.Rows.{Entry, entry_of, is_dir, is_dir_at, mark_of, set_kind, with_kind, zone_id}
use Rattle.inode_tree.specs.ZoneFiles.{edek_of}
use Rattle.zone_table.specs.declared.statuses.StatusRow.{StatusRow}
use Rattle.zone_table.specs.Statuses.{StatusesFit, counted, goes_on_under, mark_of_id, status_of}
use Rattle.zone_table.specs.Zones.{with_mark, zones_of}
use Rattle.zone_table.proofs.StatusLaws.{fit-counted, fit-kind}
use Rattle.edit_ops.specs.declared.files.FileKey.{FileKey}
use Rattle.edit_ops.specs.declared.ops.EditOp.{EditOp}
use Rattle.edit_ops.specs.declared.ops.EditOp.TheVariants as op
use Rattle.name_store.specs.Table.{NameTable, allows, ids_once, is_of_key, is_under, may_update, with_edeks}
use Rattle.name_store.specs.Updates.{AreFiles, IsFileRow}
use Rattle.name_store.proofs.CauseLemmas.{allowed, and-yes}
use Rattle.name_store.proofs.IdLemmas.{kind-id}

-- the files that an update may change

abbrev kind_in : Option Entry → Option Bool
kind_in o = option_map (λ e. is_dir e.row.kind) o

with-edek : (x : Entry) → is_some (edek_of x.row.kind) ≡ true → kind_in (Some x) ≡ Some false
with-edek x h = go x.row.kind h
  where
    go : (k : Kind) → is_some (edek_of k) ≡ true → Some (is_dir k) ≡ Some false
    go (Dir key) h = absurd cc
    go (File edek) h = refl

file-at : (t : NameTable) (session : ℕ) (f : FileKey) → may_update t session f ≡ true → IsFileRow t.rows f
file-at t session f may = go (entry_of t.rows f.id) may
  where
    go : (o : Option Entry) → option_map_or (λ (e : Entry). is_under t session e && is_of_key f e) o false ≡ true → kind_in o ≡ Some false
    go None h = absurd cc
    go (Some x) h = with-edek x (and_parts (is_some (edek_of x.row.kind)) _ (and_parts (is_under t session x) (is_of_key f x) h).0).0

are-files : (t : NameTable) (session : ℕ) (files : List FileKey) → list_all (may_update t session) files ≡ true → AreFiles t.rows files
are-files t session [] may = tt
are-files t session (f ∷ fs) may =
    let parts = and_parts (may_update t session f) (list_all (may_update t session) fs) may in
    (file-at t session f parts.0, are-files t session fs parts.1)

-- an update that is allowed, of a table and an operation that are known by other names
pub updated-files : (t t' : NameTable) (session failed : ℕ) (mark : Option NPath) (files : List FileKey) (o : EditOp) → t ≡ t' → o ≡ op.Update session failed mark files → allows t' o ≡ true
    → AreFiles t.rows files
updated-files t t' session failed mark files o same is may =
    let here : allows t (op.Update session failed mark files) ≡ true = ap (λ (u : NameTable). allows u (op.Update session failed mark files)) same ∙ ap (allows t') (sym is) ∙ may in
    are-files t session files (and_parts (ids_once files) (list_all (may_update t session) files) (allowed t (op.Update session failed mark files) refl here).fits).1

-- one row gets another kind

pub entry-kind : (n : ℕ) (kind : Kind) (rows : List Entry) (id : ℕ) → entry_of (set_kind rows n kind) id ≡ option_map (with_kind n kind) (entry_of rows id)
entry-kind n kind [] id = refl
entry-kind n kind (y ∷ ys) id =
    ap (λ (i : ℕ). cond (i == id) (Some (with_kind n kind y)) (entry_of (set_kind ys n kind) id)) (kind-id n kind y) ∙ go (y.row.id == id) (entry-kind n kind ys id)
  where
    go : (b : Bool) → entry_of (set_kind ys n kind) id ≡ option_map (with_kind n kind) (entry_of ys id)
        → cond b (Some (with_kind n kind y)) (entry_of (set_kind ys n kind) id) ≡ option_map (with_kind n kind) (cond b (Some y) (entry_of ys id))
    go true ih = refl
    go false ih = ih

abbrev FoundIn : List Entry → Entry → Type 0
FoundIn rows e = entry_of rows e.row.id ≡ Some e

-- each id is still that of one row
once-kind : (n : ℕ) (kind : Kind) (rows : List Entry) → All (FoundIn rows) rows → All (FoundIn (set_kind rows n kind)) (set_kind rows n kind)
once-kind n kind rows once = All-map (FoundIn (set_kind rows n kind)) (with_kind n kind) rows (All-weaker (FoundIn rows) (λ e. FoundIn (set_kind rows n kind) (with_kind n kind e)) one rows once)
  where
    one : (e : Entry) → FoundIn rows e → FoundIn (set_kind rows n kind) (with_kind n kind e)
    one e found = ap (entry_of (set_kind rows n kind)) (kind-id n kind e) ∙ entry-kind n kind rows e.row.id ∙ ap (option_map (with_kind n kind)) found

module _ (f : FileKey) where
  abbrev own : Kind
  own = File (Some f.edek)

  abbrev keyed : List Entry → List Entry
  keyed rows = set_kind rows f.id own

  -- a file stays one
  still-file : (rows : List Entry) (g : FileKey) → IsFileRow rows g → IsFileRow (keyed rows) g
  still-file rows g file = ap kind_in (entry-kind f.id own rows g.id) ∙ go (entry_of rows g.id) file
    where
      by : (x : Entry) (b : Bool) → is_dir x.row.kind ≡ false → is_dir (cond b (record x { row = record { id = f.id; kind = own } }) x).row.kind ≡ false
      by x true h = refl
      by x false h = h

      go : (o : Option Entry) → kind_in o ≡ Some false → kind_in (option_map (with_kind f.id own) o) ≡ Some false
      go None h = absurd cc
      go (Some x) h = let file : is_dir x.row.kind ≡ false = cc h in ap (λ (b : Bool). Some b) (by x (x.row.id == f.id) file)

  still-files : (rows : List Entry) (fs : List FileKey) → AreFiles rows fs → AreFiles (keyed rows) fs
  still-files rows [] h = tt
  still-files rows (g ∷ gs) h = (still-file rows g h.0, still-files rows gs h.1)

  -- the entry of a directory is unchanged
  dir-kept : (rows : List Entry) (id : ℕ) → IsFileRow rows f → is_dir_at (option_map (λ e. e.row) (entry_of rows id)) ≡ true → entry_of (keyed rows) id ≡ entry_of rows id
  dir-kept rows id file dir = entry-kind f.id own rows id ∙ go (entry_of rows id) refl dir
    where
      same : (x : Entry) → entry_of rows id ≡ Some x → is_dir x.row.kind ≡ true → (b : Bool) → (x.row.id == f.id) ≡ b → (id == f.id) ≡ b
          → cond b (record x { row = record { id = f.id; kind = own } }) x ≡ x
      same x found h true is own =
          let here : kind_in (Some x) ≡ Some false = ap kind_in (sym found) ∙ ap (λ (i : ℕ). kind_in (entry_of rows i)) ((Decides-eqb id f.id).0 own) ∙ file in
          let not : is_dir x.row.kind ≡ false = cc here in
          absurd (cc (h, not))
      same x found h false is own = refl

      id-of : (i : ℕ) (es : List Entry) (x : Entry) → entry_of es i ≡ Some x → x.row.id ≡ i
      id-of i [] x found = absurd cc
      id-of i (y ∷ ys) x found = at (y.row.id == i) refl found (id-of i ys x)
        where
          at : (b : Bool) → (y.row.id == i) ≡ b → cond b (Some y) (entry_of ys i) ≡ Some x → (entry_of ys i ≡ Some x → x.row.id ≡ i) → x.row.id ≡ i
          at true is k rest = let its : y ≡ x = cc k in ap (λ (z : Entry). z.row.id) (sym its) ∙ (Decides-eqb y.row.id i).0 is
          at false is k rest = rest k

      go : (o : Option Entry) → entry_of rows id ≡ o → is_dir_at (option_map (λ e. e.row) o) ≡ true → option_map (with_kind f.id own) o ≡ o
      go None found h = refl
      go (Some x) found h = ap (λ (y : Entry). Some y) (same x found h (x.row.id == f.id) refl (ap (λ (i : ℕ). i == f.id) (sym (id-of id rows x found))))

  no-mark : (rows : List Entry) → IsFileRow rows f → mark_of_id rows f.id ≡ None
  no-mark rows file = go (entry_of rows f.id) file
    where
      of-kind : (k : Kind) → is_dir k ≡ false → mark_of k ≡ None
      of-kind (Dir key) h = absurd cc
      of-kind (File edek) h = refl

      go : (o : Option Entry) → kind_in o ≡ Some false → option_and_then (λ (e : Entry). mark_of e.row.kind) o ≡ None
      go None h = refl
      go (Some x) h = of-kind x.row.kind (cc h)

  -- the marks are unchanged
  zones-kept : (rows : List Entry) → All (FoundIn rows) rows → IsFileRow rows f → zones_of (keyed rows) ≡ zones_of rows
  zones-kept rows once file = over rows once
    where
      mark-kept : (x : Entry) (b : Bool) → (x.row.id == f.id) ≡ b → FoundIn rows x → mark_of (cond b (record x { row = record { id = f.id; kind = own } }) x).row.kind ≡ mark_of x.row.kind
      mark-kept x true is found = sym (ap (option_and_then (λ (e : Entry). mark_of e.row.kind)) (sym found) ∙ ap (mark_of_id rows) ((Decides-eqb x.row.id f.id).0 is) ∙ no-mark rows file)
      mark-kept x false is found = refl

      over : (es : List Entry) → All (FoundIn rows) es → zones_of (keyed es) ≡ zones_of es
      over [] h = refl
      over (x ∷ xs) h =
          ap (λ (i : ℕ). with_mark (mark_of (with_kind f.id own x).row.kind) i (zones_of (keyed xs))) (kind-id f.id own x)
          ∙ ap (λ (m : Option KeyName). with_mark m x.row.id (zones_of (keyed xs))) (mark-kept x (x.row.id == f.id) refl (All-head (FoundIn rows) x xs h))
          ∙ ap (with_mark (mark_of x.row.kind) x.row.id) (over xs (All-tail (FoundIn rows) x xs h))

-- all files of an update

pub dirs-kept : (fs : List FileKey) (rows : List Entry) (id : ℕ) → AreFiles rows fs → is_dir_at (option_map (λ e. e.row) (entry_of rows id)) ≡ true → entry_of (with_edeks fs rows) id ≡ entry_of rows id
dirs-kept [] rows id files dir = refl
dirs-kept (f ∷ fs) rows id files dir =
    let first = dir-kept f rows id files.0 dir in
    dirs-kept fs (keyed f rows) id (still-files f rows fs files.1) (ap (λ (o : Option Entry). is_dir_at (option_map (λ e. e.row) o)) first ∙ dir) ∙ first

fit-edeks : (fs : List FileKey) (rows : List Entry) (statuses : List StatusRow) → AreFiles rows fs → StatusesFit rows statuses → StatusesFit (with_edeks fs rows) statuses
fit-edeks [] rows statuses files fit = fit
fit-edeks (f ∷ fs) rows statuses files fit =
    fit-edeks fs (keyed f rows) statuses (still-files f rows fs files.1) (fit-kind rows f.id (own f) statuses (no-mark f rows files.0) fit)

-- the statuses fit these rows after the files were counted
pub fit-updated : (session changed failed : ℕ) (mark : Option NPath) (fs : List FileKey) (rows : List Entry) (statuses after : List StatusRow) → AreFiles rows fs → StatusesFit rows statuses
    → after ≡ counted session changed failed mark statuses → StatusesFit (with_edeks fs rows) after
fit-updated session changed failed mark fs rows statuses after files fit is =
    subst (StatusesFit (with_edeks fs rows)) (sym is) (fit-counted (with_edeks fs rows) session changed failed mark statuses (fit-edeks fs rows statuses files fit))

pub zones-edeks : (fs : List FileKey) (rows : List Entry) → All (FoundIn rows) rows → AreFiles rows fs → zones_of (with_edeks fs rows) ≡ zones_of rows
zones-edeks [] rows once files = refl
zones-edeks (f ∷ fs) rows once files =
    zones-edeks fs (keyed f rows) (once-kind f.id (own f) rows once) (still-files f rows fs files.1) ∙ zones-kept f rows once files.0

-- the files of an update one by one

pub each-more : (p : FileKey → Bool) (fs : List FileKey) (k : ℕ) (f : FileKey) → k < length fs → f ≡ get_or fs k f → p f ≡ true → list_all p (drop k fs) ≡ list_all p (drop (k + 1) fs)
each-more p fs k f within is may =
    at_drop_more (list_all p) fs k f within ∙ ap (λ (b : Bool). b && list_all p (drop (k + 1) fs)) (ap p (sym is) ∙ may)

-- a file got its new encrypted key
pub one-more : (fs : List FileKey) (k : ℕ) (f : FileKey) (rows rows' all : List Entry) → k < length fs → f ≡ get_or fs k f → rows' ≡ keyed f rows → AreFiles rows (drop k fs)
    → with_edeks (drop k fs) rows ≡ all → AreFiles rows' (drop (k + 1) fs) × (with_edeks (drop (k + 1) fs) rows' ≡ all)
one-more fs k f rows rows' all within is done files so_far =
    let split : drop k fs ≡ f ∷ drop (k + 1) fs = drop_more fs k f within ∙ ap (λ (g : FileKey). g ∷ drop (k + 1) fs) (sym is) in
    let here = subst (AreFiles rows) split files in (
      subst (λ (es : List Entry). AreFiles es (drop (k + 1) fs)) (sym done) (still-files f rows (drop (k + 1) fs) here.1),
      ap (with_edeks (drop (k + 1) fs)) done ∙ ap (λ (gs : List FileKey). with_edeks gs rows) (sym split) ∙ so_far,
    )

-- whether a file may get its new encrypted key, if that is of the same key as the one it has

abbrev lies_at : NameTable → ℕ → Entry → Bool
lies_at t session e = option_map_or (λ (zone : ℕ). option_map_or (goes_on_under session) (status_of t.statuses zone) false) (zone_id t.rows e.path) false

abbrev has_same : FileKey → Kind → Bool
has_same f kind = option_map_or (λ (edek : Edek). bytes_eq f.edek.version.key edek.version.key) (edek_of kind) false

may-order : (o : Option Edek) (lies : Bool) (same : Edek → Bool) → option_map_or same o false ≡ true → lies ≡ ((is_some o && lies) && option_map_or same o false)
may-order None lies same h = absurd cc
may-order (Some edek) lies same h = and-yes lies ∙ ap (λ (b : Bool). lies && b) (sym h)

may-at : {E : Type 0} (t : NameTable) (session : ℕ) (f : FileKey) (e : Entry) (r : Result Bool E) → entry_of t.rows f.id ≡ Some e → has_same f e.row.kind ≡ true
    → IfOk r (λ (lies : Bool). lies ≡ lies_at t session e) → IfOk r (λ (may : Bool). may ≡ may_update t session f)
may-at t session f e (Ok b) is own h =
    h ∙ may-order (edek_of e.row.kind) (lies_at t session e) (λ (edek : Edek). bytes_eq f.edek.version.key edek.version.key) own
    ∙ ap (λ (o : Option Entry). option_map_or (λ (x : Entry). is_under t session x && is_of_key f x) o false) (sym is)
may-at t session f e (Err why) is own h = tt

pub may-lie : {E : Type 0} (t : NameTable) (session : ℕ) (f : FileKey) (row : Row) (r : Result Bool E) → option_map (λ e. e.row) (entry_of t.rows f.id) ≡ Some row → has_same f row.kind ≡ true
    → ((e : Entry) → entry_of t.rows f.id ≡ Some e → IfOk r (λ (lies : Bool). lies ≡ lies_at t session e)) → IfOk r (λ (may : Bool). may ≡ may_update t session f)
may-lie t session f row r found same lies = go (entry_of t.rows f.id) refl found
  where
    go : (o : Option Entry) → entry_of t.rows f.id ≡ o → option_map (λ e. e.row) o ≡ Some row → IfOk r (λ (may : Bool). may ≡ may_update t session f)
    go None is own = absurd cc
    go (Some e) is own =
        let its : e.row ≡ row = cc own in
        may-at t session f e r is (ap (λ (x : Row). has_same f x.kind) its ∙ same) (lies e is)
