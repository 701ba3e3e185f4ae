-- The statuses of zones, and the snapshots, fit the rows after each operation that is allowed.
use Rattle.std.proofs.Common.{◌≡◌, ℕ, ◌≤◌, Bool, true, false, cond, ◌&&◌, nat_lt, List, [], ◌∷◌, length, Option, Some, None, refl, sym, ap, ◌∙◌, arith}
use Rattle.std.specs.Prelude.{is_some}
use Rattle.std.specs.Option.{option_and_then}
use Rattle.std.proofs.lemmas.Bool.{both_ways, and_parts}
use Rattle.std.proofs.lemmas.Bool.Decides.{nat_tests}
use Rattle.std.proofs.lemmas.Slice.Eq.{bytes_eq-Decides}
use Rattle.hk_base.specs.declared.names.KeyName.{KeyName}
use Rattle.hk_base.specs.Names.{Version}
use Rattle.name_calls.specs.Paths.{is_prefix, same_path}
use Rattle.inode_tree.specs.declared.rows.Row.{Row}
use Rattle.inode_tree.specs.declared.rows.Kind.TheVariants.{Dir}
use Rattle.inode_tree.specs.Rows.{Entry, IsRows, is_dir_at, is_marked, is_zone_over, longer, mark_of, row_at, zone_of}
use Rattle.inode_tree.proofs.Seeks.{same-is, same-itself}
use Rattle.inode_tree.proofs.ZoneLemmas.{prefix-whole, zone-short}
use Rattle.zone_table.specs.declared.statuses.StatusRow.{StatusRow}
use Rattle.zone_table.specs.Statuses.{StatusesFit, counted, mark_of_id, new_status}
use Rattle.zone_table.proofs.StatusLaws.{fit-ended, fit-kind, fit-put, fit-removed, fit-renamed, fit-submitted}
use Rattle.snap_store.specs.Snapshots.{SnapTable}
use Rattle.edit_ops.specs.declared.ops.EditOp.{EditOp}
use Rattle.edit_ops.specs.declared.ops.EditOp.TheVariants as op
use Rattle.name_store.specs.Causes.{first_cause, id_at, id_of, mark_at, zone_causes}
use Rattle.name_store.specs.Table.{FitsRows, IsNameTable, NameTable, after_table, allows, fits_noted, key_of_zone, new_directory, new_file}
use Rattle.name_store.proofs.CauseLemmas.{allowed, id-may-be-used, markable, submittable}
use Rattle.name_store.proofs.FitsLemmas.{fits-after}
use Rattle.name_store.proofs.RowLemmas.{entry-at, is-unmarked, same-prefix}
use Rattle.name_store.proofs.UpdateLemmas.{fit-updated, updated-files}

-- a marked row is that of the zone of its path

pub record IsZoneAt (es : List Entry) (p : List (List ℕ)) (row : Row) : Type 0 where
  pub zone : Entry
  pub found : zone_of es p ≡ Some zone
  pub its_row : zone.row ≡ row
  pub its_path : zone.path ≡ p

not-longer : (x g : Entry) (p : List (List ℕ)) → x.path ≡ p → length g.path ≤ length p → nat_lt (length x.path) (length g.path) ≡ false
not-longer x g p is short =
    let same : length x.path ≡ length p = ap length is in
    grind (arith, nat_tests, same, short)

-- the row at the path comes first
here : (x : Entry) (es : List Entry) (p : List (List ℕ)) (o : Option Entry) → zone_of es p ≡ o → x.path ≡ p → longer x o ≡ x
here x es p None none is = refl
here x es p (Some g) some is = ap (λ (b : Bool). cond b g x) (not-longer x g p is (zone-short es p g some))

-- a row of a shorter path comes first
shorter : (x f : Entry) (p : List (List ℕ)) → is_prefix x.path p ≡ true → same_path x.path p ≡ false → f.path ≡ p → nat_lt (length x.path) (length f.path) ≡ true
shorter x f p over other is = go (nat_lt (length x.path) (length f.path)) refl
  where
    go : (b : Bool) → nat_lt (length x.path) (length f.path) ≡ b → b ≡ true
    go true less = refl
    go false less =
        let same : length f.path ≡ length p = ap length is in
        let long : length p ≤ length x.path = grind (arith, nat_tests, less, same) in
        let whole : same_path x.path p ≡ true = ap (λ (q : List (List ℕ)). same_path q p) (prefix-whole x.path p over long) ∙ same-itself p in
        absurd (both_ways (same_path x.path p) other whole)

pub zone-at : (es : List Entry) (p : List (List ℕ)) (row : Row) → row_at es p ≡ Some row → is_marked row ≡ true → IsZoneAt es p row
zone-at [] p row is marked = absurd cc
zone-at (x ∷ es) p row is marked = go (same_path x.path p) refl is (λ rest. zone-at es p row rest marked)
  where
    later : (f : IsZoneAt es p row) → same_path x.path p ≡ false → (b : Bool) → is_zone_over p x ≡ b → cond b (Some (longer x (zone_of es p))) (zone_of es p) ≡ Some f.zone
    later f other false over = f.found
    later f other true over =
        ap (λ (o : Option Entry). Some (longer x o)) f.found
        ∙ ap (λ (b : Bool). Some (cond b f.zone x)) (shorter x f.zone p (and_parts (is_marked x.row) (is_prefix x.path p) over).1 other f.its_path)

    go : (b : Bool) → same_path x.path p ≡ b → cond b (Some x.row) (row_at es p) ≡ Some row → (row_at es p ≡ Some row → IsZoneAt es p row) → IsZoneAt (x ∷ es) p row
    go true same found rest =
        let own : x.row ≡ row = cc found in
        let path = same-is x.path p same in
        let over : is_zone_over p x ≡ true = ap (λ (r : Row). is_marked r && is_prefix x.path p) own ∙ ap (λ (b : Bool). b && is_prefix x.path p) marked ∙ same-prefix x.path p same in
        record {
          zone = x;
          found = ap (λ (b : Bool). cond b (Some (longer x (zone_of es p))) (zone_of es p)) over ∙ ap (λ (e : Entry). Some e) (here x es p (zone_of es p) refl path);
          its_row = own;
          its_path = path;
        }
    go false other found rest =
        let f = rest found in
        record { zone = f.zone; found = later f other (is_zone_over p x) refl; its_row = f.its_row; its_path = f.its_path }

-- the key of a zone at its root

pub record MarkedRow (rows : List Entry) (p : List (List ℕ)) (key : KeyName) : Type 0 where
  pub row : Row
  pub stands : row_at rows p ≡ Some row
  pub mark : mark_of row.kind ≡ Some key

pub marked-row : (rows : List Entry) (p : List (List ℕ)) (key : KeyName) → mark_at rows p ≡ Some key → MarkedRow rows p key
marked-row rows p key h = go (row_at rows p) refl h
  where
    go : (o : Option Row) → row_at rows p ≡ o → option_and_then (λ r. mark_of r.kind) o ≡ Some key → MarkedRow rows p key
    go None is marked = absurd cc
    go (Some row) is marked = record { row = row; stands = is; mark = marked }

-- the key of the zone of a path that is marked is the mark
pub key-at-root : (rows : List Entry) (p : List (List ℕ)) (key : KeyName) → mark_at rows p ≡ Some key → key_of_zone rows p ≡ Some key
key-at-root rows p key h =
    let m = marked-row rows p key h in
    let z = zone-at rows p m.row m.stands (ap is_some m.mark) in
    ap (option_and_then (λ (e : Entry). mark_of e.row.kind)) z.found ∙ ap (λ (r : Row). mark_of r.kind) z.its_row ∙ m.mark

-- and that of the row's id
pub mark-of-root : (rows : List Entry) (p : List (List ℕ)) (key : KeyName) → IsRows rows → mark_at rows p ≡ Some key → mark_of_id rows (id_at rows p) ≡ Some key
mark-of-root rows p key good h =
    let m = marked-row rows p key h in
    let at = entry-at rows p m.row good m.stands in
    ap (λ (o : Option Row). mark_of_id rows (id_of o)) m.stands ∙ ap (option_and_then (λ (e : Entry). mark_of e.row.kind)) at.2 ∙ ap (λ (r : Row). mark_of r.kind) at.1 ∙ m.mark

noted-key : (zone key : KeyName) → fits_noted (Some zone) key ≡ true → Some zone ≡ Some key
noted-key zone key h = ap (λ (k : KeyName). Some k) (sym ((bytes_eq-Decides key zone).0 h))

-- a version that fits the zone of a marked path is one of the mark
noted-fits : (rows : List Entry) (p : List (List ℕ)) (key : KeyName) (noted : Version) → IsRows rows → mark_at rows p ≡ Some key → fits_noted (key_of_zone rows p) noted.key ≡ true
    → mark_of_id rows (id_at rows p) ≡ Some noted.key
noted-fits rows p key noted good h fits =
    mark-of-root rows p key good h
    ∙ noted-key key noted.key (ap (λ (o : Option KeyName). fits_noted o noted.key) (sym (key-at-root rows p key h)) ∙ fits)

-- a directory that may become a zone has no mark
unmarked-id : (rows : List Entry) (p : List (List ℕ)) → IsRows rows → first_cause (zone_causes rows p) ≡ None → mark_of_id rows (id_at rows p) ≡ None
unmarked-id rows p good may = go (row_at rows p) refl (markable rows p may).dir
  where
    go : (o : Option Row) → row_at rows p ≡ o → is_dir_at o ≡ true → mark_of_id rows (id_of o) ≡ None
    go None is dir = absurd cc
    go (Some row) is dir =
        let at = entry-at rows p row good is in
        ap (option_and_then (λ (e : Entry). mark_of e.row.kind)) at.2 ∙ ap (λ (r : Row). mark_of r.kind) at.1 ∙ is-unmarked rows p row may is

-- an operation that is allowed
statuses-after : (t : NameTable) → IsNameTable t → (o : EditOp) → allows t o ≡ true → StatusesFit (after_table t o).rows (after_table t o).statuses
statuses-after t good (op.Opened opening) may = good.statuses
statuses-after t good (op.Mkdir id p) may = fit-put (new_directory id p) t.rows t.statuses (id-may-be-used t id (allowed t (op.Mkdir id p) refl may).ids).free good.statuses
statuses-after t good (op.File id p edek) may = fit-put (new_file id p edek) t.rows t.statuses (id-may-be-used t id (allowed t (op.File id p edek) refl may).ids).free good.statuses
statuses-after t good (op.Remove p) may = fit-removed t.rows p t.statuses good.statuses
statuses-after t good (op.Rename p q) may = fit-renamed t.rows p q t.statuses good.rules good.statuses
statuses-after t good (op.Zone p key) may =
    fit-kind t.rows (id_at t.rows p) (Dir (Some key)) t.statuses (unmarked-id t.rows p good.rules (allowed t (op.Zone p key) refl may).free) good.statuses
statuses-after t good (op.Allow p) may = good.statuses
statuses-after t good (op.Disallow p) may = good.statuses
statuses-after t good (op.Snap p name) may = good.statuses
statuses-after t good (op.Unsnap p name) may = good.statuses
statuses-after t good (op.Submit session p noted) may =
    let a = allowed t (op.Submit session p noted) refl may in
    let root = submittable t.rows t.statuses p a.free in
    fit-submitted t.rows (new_status (id_at t.rows p) session noted) t.statuses (noted-fits t.rows p root.key noted good.rules root.marked a.fits) good.statuses
statuses-after t good (op.Update session failed mark files) may =
    let stand = updated-files t t session failed mark files (op.Update session failed mark files) refl refl may in
    fit-updated session (length files) failed mark files t.rows t.statuses (counted session (length files) failed mark t.statuses) stand good.statuses refl
statuses-after t good (op.Cancel session) may = fit-ended t.rows session true t.statuses good.statuses
statuses-after t good (op.Complete session) may = fit-ended t.rows session false t.statuses good.statuses

-- the snapshots and the statuses fit the rows
abbrev pub Fit : List Entry → SnapTable → List StatusRow → Type 0
Fit rows snaps statuses = FitsRows rows snaps × StatusesFit rows statuses

-- an operation that is allowed, of a table and an operation that are known by other names
pub fit-of : (t t' : NameTable) (o o' : EditOp) → t ≡ t' → o' ≡ o → IsNameTable t → allows t' o' ≡ true → Fit (after_table t o).rows (after_table t o).snaps (after_table t o).statuses
fit-of t t' o o' same is good may =
    let here = ap (λ (u : NameTable). allows u o) same ∙ ap (allows t') (sym is) ∙ may in
    (fits-after t good o here, statuses-after t good o here)
