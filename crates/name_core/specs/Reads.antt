-- Entries that are read, as they are or as they were in a snapshot: why a read is refused, and what it answers.
use Rattle.std.specs.Prelude.{ℕ, Bool, List, [], ◌∷◌, ◌++◌, Option, Some, None, is_none, option_map, if◌then◌else◌}
use Rattle.inode_tree.specs.declared.rows.Row.{Row}
use Rattle.inode_tree.specs.declared.rows.Kind.{Kind}
use Rattle.inode_tree.specs.declared.rows.Kind.TheVariants.{Dir, File}
use Rattle.inode_tree.specs.Listing.{children}
use Rattle.inode_tree.specs.Rows.{Entry, row_at, zone_of}
use Rattle.name_calls.specs.Paths.{parent}
use Rattle.name_calls.specs.declared.paths.NPath.{NPath}
use Rattle.name_calls.specs.declared.read_paths.ReadPath.{ReadPath}
use Rattle.name_calls.specs.declared.read_paths.SnapPart.{SnapPart}
use Rattle.name_calls.specs.declared.calls.NameReply.{NameReply}
use Rattle.name_calls.specs.declared.calls.NameReply.TheVariants as reply
use Rattle.name_calls.specs.declared.calls.NameRefusal.{NameRefusal}
use Rattle.name_calls.specs.declared.calls.NameRefusal.TheVariants as refusal
use Rattle.snap_store.specs.Snapshots.{rows_in}
use Rattle.name_store.specs.Causes.{directory_causes, first_cause, id_at, is_root, unsnap_causes}
use Rattle.name_store.specs.Table.{NameTable}

-- the rows that a snapshot of the directory at the path has, seen from the directory
abbrev pub snapshot_rows : NameTable → NPath → List ℕ → List Entry
snapshot_rows t p name = rows_in t.snaps.taken (id_at t.rows p) name

abbrev pub rows_of_part : NameTable → NPath → Option SnapPart → List Entry
rows_of_part t p None = t.rows
rows_of_part t p (Some part) = snapshot_rows t p part.name

abbrev pub path_of_part : NPath → Option SnapPart → NPath
path_of_part p None = p
path_of_part p (Some part) = part.below

-- the rows that are read, and the path of the entry in them
abbrev pub rows_read : NameTable → ReadPath → List Entry
rows_read t r = rows_of_part t r.path r.snapshot

abbrev pub path_read : ReadPath → NPath
path_read r = path_of_part r.path r.snapshot

-- a snapshot that is read must be there, as one that is removed
abbrev pub part_causes : NameTable → NPath → Option SnapPart → List (Bool × NameRefusal)
part_causes t p None = []
part_causes t p (Some part) = unsnap_causes t.rows t.snaps p part.name

abbrev pub snapshot_causes : NameTable → ReadPath → List (Bool × NameRefusal)
snapshot_causes t r = part_causes t r.path r.snapshot

abbrev pub entry_causes : List Entry → NPath → List (Bool × NameRefusal)
entry_causes rows p = (is_none (row_at rows p), refusal.NoSuchPath) ∷ []

abbrev pub info_causes : NameTable → ReadPath → List (Bool × NameRefusal)
info_causes t r = snapshot_causes t r ++ entry_causes (rows_read t r) (path_read r)

abbrev pub list_causes : NameTable → ReadPath → List (Bool × NameRefusal)
list_causes t r = snapshot_causes t r ++ directory_causes (rows_read t r) (path_read r)

-- the path of the zone that a path lies in
abbrev pub path_of_zone : List Entry → NPath → Option NPath
path_of_zone rows p = option_map (λ e. e.path) (zone_of rows p)

-- the path of the zone over a directory, whether or not it is a zone itself: that of its parent; there is none over the root
abbrev pub zone_over : List Entry → NPath → Option NPath
zone_over rows p = if is_root p then None else path_of_zone rows (parent p)

abbrev pub zone_in_or_above : List Entry → NPath → Option Entry → Option NPath
zone_in_or_above rows p None = zone_over rows p
zone_in_or_above rows p (Some e) = Some (p ++ e.path)

-- The path of the zone that an entry of a snapshot lay in. It is the deepest marked directory of the snapshot at or above the entry. If
-- there is none, it is the zone over the directory of the snapshot. That directory may have become a zone since, but it was none when the
-- snapshot was taken.
abbrev pub zone_in_snapshot : NameTable → NPath → SnapPart → Option NPath
zone_in_snapshot t p part = zone_in_or_above t.rows p (zone_of (snapshot_rows t p part.name) part.below)

abbrev pub zone_of_part : NameTable → NPath → Option SnapPart → Option NPath
zone_of_part t p None = path_of_zone t.rows p
zone_of_part t p (Some part) = zone_in_snapshot t p part

-- the path, seen from the root, of the zone that the entry lies in or lay in
abbrev pub zone_read : NameTable → ReadPath → Option NPath
zone_read t r = zone_of_part t r.path r.snapshot

abbrev pub answer_unless : Option NameRefusal → NameReply → NameReply
answer_unless (Some why) answer = reply.Refused why
answer_unless None answer = answer

-- the reply for a row: its id, the path of the zone that it lies in, and its own key
abbrev pub info_of : ℕ → Option NPath → Kind → NameReply
info_of id path (Dir key) = reply.Dir id path key
info_of id path (File edek) = reply.File id path edek

abbrev pub shown_at : Option NPath → Option Row → NameReply
shown_at path None = reply.Refused refusal.NoSuchPath
shown_at path (Some row) = info_of row.id path row.kind

abbrev pub info_reply : NameTable → ReadPath → NameReply
info_reply t r = shown_at (zone_read t r) (row_at (rows_read t r) (path_read r))

abbrev pub list_reply : NameTable → ReadPath → NameReply
list_reply t r = reply.List (children (rows_read t r) (path_read r))

-- the reply to an info and to a list, unless memory runs out

abbrev pub info_answer : NameTable → ReadPath → NameReply
info_answer t r = answer_unless (first_cause (info_causes t r)) (info_reply t r)

abbrev pub list_answer : NameTable → ReadPath → NameReply
list_answer t r = answer_unless (first_cause (list_causes t r)) (list_reply t r)
