-- What the namesystem shows of a file is of a row that its table keeps.
use Rattle.std.proofs.Common.{◌≡◌, inl, inr, ℕ, Bool, true, false, cond, List, [], ◌∷◌, Option, Some, None, refl, sym, ap, subst}
use Rattle.std.specs.Option.{option_map_or}
use Rattle.hk_base.specs.declared.names.Edek.{Edek}
use Rattle.inode_tree.specs.declared.rows.Kind.{Kind}
use Rattle.inode_tree.specs.declared.rows.Kind.TheVariants.{Dir, File}
use Rattle.inode_tree.specs.declared.rows.Row.{Row}
use Rattle.inode_tree.specs.Rows.{Entry, row_at}
use Rattle.inode_tree.specs.ZoneFiles.{edek_of}
use Rattle.name_calls.specs.Paths.{same_path}
use Rattle.name_calls.specs.declared.calls.NameCall.TheVariants as call
use Rattle.name_calls.specs.declared.calls.NameRefusal.{NameRefusal}
use Rattle.name_calls.specs.declared.calls.NameReply.{NameReply}
use Rattle.name_calls.specs.declared.calls.NameReply.TheVariants as reply
use Rattle.name_calls.specs.declared.paths.NPath.{NPath}
use Rattle.name_calls.specs.declared.read_paths.ReadPath.{ReadPath}
use Rattle.name_calls.specs.declared.read_paths.SnapPart.{SnapPart}
use Rattle.snap_store.specs.Snapshots.{Snapshot, is_named, snapshot_named}
use Rattle.name_store.specs.Causes.{first_cause, id_at}
use Rattle.name_store.specs.Table.{NameTable, kept_rows, rows_of_entries, snapped_rows}
use Rattle.name_core.specs.Calls.{NoRoom, Plain, causes, deed, unless_refused}
use Rattle.name_core.specs.Reads.{info_of, path_read, rows_of_part, rows_read, shown_at, zone_read}
use Rattle.world_run.specs.Promise.{In}
use Rattle.world_run.proofs.Members.{found-in, in-left, in-right, some-is}
use Rattle.run_laws.specs.Keys.{ShownKeysAreKept}

-- the row at a path is one of the rows
row-there : (rows : List Entry) (p : List (List ℕ)) (row : Row) → row_at rows p ≡ Some row → In row (rows_of_entries rows)
row-there [] p row at = absurd cc
row-there (e ∷ es) p row at = go (same_path e.path p) at (row-there es p row)
  where
    go : (b : Bool) → cond b (Some e.row) (row_at es p) ≡ Some row → (row_at es p ≡ Some row → In row (rows_of_entries es)) → In row (e.row ∷ rows_of_entries es)
    go true is later = inl (sym (some-is e.row row is))
    go false is later = inr (later is)

-- the rows of a snapshot are among those of all
snapped-too : (taken : List Snapshot) (s : Snapshot) (row : Row) → In s taken → In row (rows_of_entries s.rows) → In row (snapped_rows taken)
snapped-too [] s row i j = absurd i
snapped-too (t ∷ taken) s row (inl is) j = in-left row (rows_of_entries t.rows) (snapped_rows taken) (subst (λ (x : Snapshot). In row (rows_of_entries x.rows)) is j)
snapped-too (t ∷ taken) s row (inr i) j = in-right row (rows_of_entries t.rows) (snapped_rows taken) (snapped-too taken s row i j)

-- the rows that are read are kept
read-kept : (t : NameTable) (r : ReadPath) (row : Row) → In row (rows_of_entries (rows_read t r)) → In row (kept_rows t)
read-kept t r row i = go r.snapshot i
  where
    named : (dir : ℕ) (name : List ℕ) (o : Option Snapshot) → snapshot_named t.snaps.taken dir name ≡ o → In row (rows_of_entries (option_map_or (λ (s : Snapshot). s.rows) o [])) → In row (kept_rows t)
    named dir name None found j = absurd j
    named dir name (Some s) found j =
        in-right row (rows_of_entries t.rows) (snapped_rows t.snaps.taken) (snapped-too t.snaps.taken s row (found-in (is_named dir name) t.snaps.taken s found) j)

    go : (o : Option SnapPart) → In row (rows_of_entries (rows_of_part t r.path o)) → In row (kept_rows t)
    go None j = in-left row (rows_of_entries t.rows) (snapped_rows t.snaps.taken) j
    go (Some part) j = named (id_at t.rows r.path) part.name (snapshot_named t.snaps.taken (id_at t.rows r.path) part.name) refl j

-- the reply for a file has its id and its encrypted key
file-shown : (kind : Kind) (row_id : ℕ) (path zone : Option NPath) (id : ℕ) (edek : Edek) → info_of row_id path kind ≡ reply.File id zone (Some edek) → (row_id ≡ id) × (edek_of kind ≡ Some edek)
file-shown (Dir key) row_id path zone id edek is = absurd cc
file-shown (File found) row_id path zone id edek is = (ap id_in is, ap key_in is)
  where
    id_in : NameReply → ℕ
    id_in (reply.File shown p e) = shown
    id_in _ = row_id

    key_in : NameReply → Option Edek
    key_in (reply.File shown p e) = e
    key_in _ = found

by-row : (t : NameTable) (r : ReadPath) (id : ℕ) (zone : Option NPath) (edek : Edek) (o : Option Row) → row_at (rows_read t r) (path_read r) ≡ o → shown_at (zone_read t r) o ≡ reply.File id zone (Some edek)
    → (file : Row) × In file (kept_rows t) × (file.id ≡ id) × (edek_of file.kind ≡ Some edek)
by-row t r id zone edek None at is = absurd cc
by-row t r id zone edek (Some row) at is =
    let shown = file-shown row.kind row.id (zone_read t r) zone id edek is in
    (row, read-kept t r row (row-there (rows_read t r) (path_read r) row at), shown.0, shown.1)

pub shown_keys_are_kept : ShownKeysAreKept
shown_keys_are_kept s r id zone edek s' (NoRoom, may, is) = let no = ap (λ o. o.reply) is in absurd cc
shown_keys_are_kept s r id zone edek s' (Plain, may, is) = go (first_cause (causes s (call.Info r))) (ap (λ o. o.reply) is)
  where
    go : (o : Option NameRefusal) → reply.File id zone (Some edek) ≡ (unless_refused o s (deed s (call.Info r))).reply → (file : Row) × In file (kept_rows s.table) × (file.id ≡ id) × (edek_of file.kind ≡ Some edek)
    go (Some why) is = absurd cc
    go None is = by-row s.table r id zone edek (row_at (rows_read s.table r) (path_read r)) refl (sym is)
