-- The parts of an image of the namesystem's table. Numbers are big-endian.
use Rattle.std.specs.Prelude.{ℕ, Bool, List, [], ◌∷◌, ◌++◌, length, if◌then◌else◌}
use Rattle.std.specs.Int.{w32, w64, to_be_bytes}
use Rattle.inode_tree.specs.declared.rows.Kind.{Kind}
use Rattle.inode_tree.specs.declared.rows.Kind.TheVariants.{Dir, File}
use Rattle.inode_tree.specs.Rows.{Entry}
use Rattle.key_rows.specs.Records.{name_field, text_field}
use Rattle.edit_ops.specs.Records.{edek_field, list_field, opt_field, path_field, version_field}
use Rattle.snap_store.specs.Snapshots.{Snapshot}
use Rattle.zone_table.specs.declared.statuses.StatusRow.{StatusRow}

-- values one after the other, after four bytes with their number
abbrev pub many_field : {X : Type 0} → (X → List ℕ) → List X → List ℕ
many_field field xs = to_be_bytes w32 (length xs) ++ list_field field xs

-- a byte 0 or 1
abbrev pub truth_field : Bool → List ℕ
truth_field b = (if b then 1 else 0) ∷ []

-- a byte 0 and the key of a directory, or a byte 1 and the encrypted key of a file, if it has one
abbrev pub kind_field : Kind → List ℕ
kind_field (Dir key) = 0 ∷ opt_field name_field key
kind_field (File edek) = 1 ∷ opt_field edek_field edek

-- a row: its path, its id and its kind
abbrev pub row_field : Entry → List ℕ
row_field e = path_field e.path ++ (to_be_bytes w64 e.row.id ++ kind_field e.row.kind)

abbrev pub rows_field : List Entry → List ℕ
rows_field = many_field row_field

abbrev pub ids_field : List ℕ → List ℕ
ids_field = many_field (to_be_bytes w64)

-- a snapshot: the id of its directory, its name, and its rows, whose paths are relative to the directory
abbrev pub snapshot_field : Snapshot → List ℕ
snapshot_field s = to_be_bytes w64 s.dir ++ (text_field s.name ++ rows_field s.rows)

-- a status: the zone, the session, the noted version, whether it has ended and was cancelled, the mark, and the two counts of files
abbrev pub status_field : StatusRow → List ℕ
status_field s =
    to_be_bytes w64 s.zone ++ (to_be_bytes w64 s.session ++ (version_field s.noted ++ (truth_field s.completed ++ (truth_field s.cancelled
    ++ (opt_field path_field s.mark ++ (to_be_bytes w64 s.reencrypted ++ to_be_bytes w64 s.failed))))))
