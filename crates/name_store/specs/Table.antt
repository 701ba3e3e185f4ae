-- The table of the namesystem, and what an operation of the edit log does to it.
use Rattle.std.specs.Prelude.{◌≡◌, ℕ, ◌+◌, ◌*◌, ◌^◌, Bool, true, false, not, ◌&&◌, ◌==◌, nat_lt, nat_le, List, [], ◌∷◌, ◌++◌, length, Option, Some, None, is_none, is_some, bytes_eq}
use Rattle.std.specs.List.{All, list_all, list_any}
use Rattle.std.specs.Option.{option_and_then, option_map, option_map_or}
use Rattle.hk_base.specs.declared.names.Edek.{Edek}
use Rattle.hk_base.specs.declared.names.KeyName.{KeyName}
use Rattle.inode_tree.specs.declared.rows.Row.{Row}
use Rattle.inode_tree.specs.declared.rows.Kind.TheVariants.{Dir, File as FileKind}
use Rattle.name_calls.specs.declared.calls.NameRefusal.{NameRefusal}
use Rattle.name_calls.specs.Paths.{is_relative}
use Rattle.inode_tree.specs.Moves.{renamed}
use Rattle.inode_tree.specs.Rows.{Entry, IsRows, entry_of, is_dir_at, mark_of, put, removed, root_only, set_kind, zone_id, zone_of}
use Rattle.inode_tree.specs.ZoneFiles.{edek_of}
use Rattle.snap_store.specs.Snapshots.{IsSnapshots, SnapTable, Snapshot, no_snaps, table_after_allow, table_after_disallow, table_after_disallow_below, table_after_remove, table_after_take}
pub use Rattle.snap_store.specs.Snapshots.{is_among}
use Rattle.zone_table.specs.declared.statuses.StatusRow.{StatusRow}
use Rattle.zone_table.specs.Statuses.{StatusesFit, counted, ended, goes_on_under, new_status, status_of, with_status, without_below}
use Rattle.log_kinds.specs.Kinds.{LogKind}
use Rattle.log_kinds.specs.Kinds as kinds
use Rattle.edit_ops.specs.Records.{HasSpelling, spelling}
use Rattle.edit_ops.specs.declared.files.FileKey.{FileKey}
use Rattle.edit_ops.specs.declared.ops.EditOp.{EditOp}
use Rattle.edit_ops.specs.declared.ops.EditOp.TheVariants.{Opened, Mkdir, File, Remove, Rename, Zone, Allow, Disallow, Snap, Unsnap, Submit, Update, Cancel, Complete}
pub use Rattle.name_store.specs.Causes.{id_of}
use Rattle.name_store.specs.Causes.{allow_causes, disallow_causes, first_cause, id_at, kept_causes, make_causes, removal_causes, rename_causes, row_causes, session_causes, snap_causes, submit_causes, unsnap_causes, zone_causes}

-- the number of the opening, the rows in path order, the snapshots, and how far the re-encryptions of zones are
pub record NameTable : Type 0 where
  pub opening : ℕ
  pub rows : List Entry
  pub snaps : SnapTable
  pub statuses : List StatusRow

-- the result of the operations of a log: the table that they make, and the ids that they used
pub record Replayed : Type 0 where
  pub table : NameTable
  pub used : List ℕ

-- before the first opening: the root alone
abbrev pub nothing_logged : Replayed
nothing_logged = record { table = record { opening = 0; rows = root_only; snaps = no_snaps; statuses = [] }; used = [] }

-- an id is of an opening: its number above, and a counter below
abbrev pub is_of_opening : ℕ → ℕ → Bool
is_of_opening opening id = nat_le (opening * 2 ^ 32) id && nat_lt id ((opening + 1) * 2 ^ 32)

-- the id is one of the opening, and no row has it
abbrev pub may_use : NameTable → ℕ → Bool
may_use t id = is_of_opening t.opening id && is_none (entry_of t.rows id)

-- the key of the zone that a path lies in
abbrev pub key_of_zone : List Entry → List (List ℕ) → Option KeyName
key_of_zone rows p = option_and_then (λ e. mark_of e.row.kind) (zone_of rows p)

-- a file has an encrypted key exactly if it is in a zone, and then of that zone's key
abbrev pub fits_zone : Option KeyName → Option Edek → Bool
fits_zone None None = true
fits_zone None (Some e) = false
fits_zone (Some key) None = false
fits_zone (Some key) (Some e) = bytes_eq e.version.key key

-- a re-encryption is noted with a version of the zone's key
abbrev pub fits_noted : Option KeyName → KeyName → Bool
fits_noted None key = false
fits_noted (Some zone) key = bytes_eq key zone

-- no id comes twice
abbrev pub ids_once : List FileKey → Bool
ids_once [] = true
ids_once (f ∷ fs) = not (list_any (λ g. g.id == f.id) fs) && ids_once fs

-- the row is a file in a zone that is being re-encrypted under the session
abbrev pub is_under : NameTable → ℕ → Entry → Bool
is_under t session e =
    is_some (edek_of e.row.kind) && option_map_or (λ zone. option_map_or (goes_on_under session) (status_of t.statuses zone) false) (zone_id t.rows e.path) false

-- the new encrypted key is of the same key as the row's, which is that of its zone
abbrev pub is_of_key : FileKey → Entry → Bool
is_of_key f e = option_map_or (λ edek. bytes_eq f.edek.version.key edek.version.key) (edek_of e.row.kind) false

-- the file may get its new encrypted key under the session
abbrev pub may_update : NameTable → ℕ → FileKey → Bool
may_update t session f = option_map_or (λ e. is_under t session e && is_of_key f e) (entry_of t.rows f.id) false

-- A file's encrypted key, or the version of a re-encryption, fits the zone of its path. Each file of an update lies in a zone of its session,
-- and comes once.
abbrev pub fits_key : NameTable → EditOp → Bool
fits_key t (File id p edek) = fits_zone (key_of_zone t.rows p) edek
fits_key t (Submit session p noted) = fits_noted (key_of_zone t.rows p) noted.key
fits_key t (Update session failed mark files) = ids_once files && list_all (may_update t session) files
fits_key t _ = true

-- why the table refuses an operation; the calls that log it are refused for the same causes, and for others
abbrev pub op_causes : NameTable → EditOp → List (Bool × NameRefusal)
op_causes t (Opened opening) = []
op_causes t (Mkdir id p) = make_causes t.rows p ++ row_causes t.rows
op_causes t (File id p edek) = make_causes t.rows p ++ row_causes t.rows
op_causes t (Remove p) = removal_causes t.rows p ++ kept_causes t.rows t.snaps p
op_causes t (Rename p q) = rename_causes t.rows t.snaps t.statuses p q
op_causes t (Zone p key) = zone_causes t.rows p
op_causes t (Allow p) = allow_causes t.rows t.snaps p
op_causes t (Disallow p) = disallow_causes t.rows t.snaps p
op_causes t (Snap p name) = snap_causes t.rows t.snaps p name
op_causes t (Unsnap p name) = unsnap_causes t.rows t.snaps p name
op_causes t (Submit session p noted) = submit_causes t.rows t.statuses p
op_causes t (Update session failed mark files) = session_causes t.statuses session
op_causes t (Cancel session) = session_causes t.statuses session
op_causes t (Complete session) = session_causes t.statuses session

-- the ids that an operation uses
abbrev pub uses : EditOp → List ℕ
uses (Opened opening) = []
uses (Mkdir id p) = id ∷ []
uses (File id p edek) = id ∷ []
uses (Remove p) = []
uses (Rename p q) = []
uses (Zone p key) = []
uses (Allow p) = []
uses (Disallow p) = []
uses (Snap p name) = []
uses (Unsnap p name) = []
uses (Submit session p noted) = session ∷ []
uses (Update session failed mark files) = []
uses (Cancel session) = []
uses (Complete session) = []

abbrev pub may_use_all : NameTable → List ℕ → Bool
may_use_all t [] = true
may_use_all t (id ∷ ids) = may_use t id && may_use_all t ids

-- An operation other than an opening is allowed in an opening, if it may use its ids, no cause applies, and its encrypted key or version fits.
abbrev pub allows_change : NameTable → EditOp → Bool
allows_change t op = nat_lt 0 t.opening && may_use_all t (uses op) && is_none (first_cause (op_causes t op)) && fits_key t op

-- Whether the table allows the operation, except for whether its id was used before.
abbrev pub allows : NameTable → EditOp → Bool
allows t (Opened opening) = opening == t.opening + 1
allows t op = allows_change t op

-- the row of a directory without a key, and of a file

abbrev pub new_directory : ℕ → List (List ℕ) → Entry
new_directory id p = record { path = p; row = record { id = id; kind = Dir None } }

abbrev pub new_file : ℕ → List (List ℕ) → Option Edek → Entry
new_file id p edek = record { path = p; row = record { id = id; kind = FileKind edek } }

-- the directory at the path is marked with a key
abbrev pub marked : List Entry → List (List ℕ) → KeyName → List Entry
marked rows p key = set_kind rows (id_at rows p) (Dir (Some key))

-- the rows after these files got their new encrypted keys
abbrev pub with_edeks : List FileKey → List Entry → List Entry
with_edeks [] rows = rows
with_edeks (f ∷ fs) rows = with_edeks fs (set_kind rows f.id (FileKind (Some f.edek)))

-- the table after the operation took effect
abbrev pub after_table : NameTable → EditOp → NameTable
after_table t (Opened opening) = record t { opening = opening }
after_table t (Mkdir id p) = record t { rows = put (new_directory id p) t.rows }
after_table t (File id p edek) = record t { rows = put (new_file id p edek) t.rows }
after_table t (Remove p) = record t { rows = removed p t.rows; snaps = table_after_disallow_below t.rows p t.snaps; statuses = without_below t.rows p t.statuses }
after_table t (Rename p q) = record t { rows = renamed p q t.rows }
after_table t (Zone p key) = record t { rows = marked t.rows p key }
after_table t (Allow p) = record t { snaps = table_after_allow (id_at t.rows p) t.snaps }
after_table t (Disallow p) = record t { snaps = table_after_disallow (id_at t.rows p) t.snaps }
after_table t (Snap p name) = record t { snaps = table_after_take t.rows (id_at t.rows p) name t.snaps }
after_table t (Unsnap p name) = record t { snaps = table_after_remove (id_at t.rows p) name t.snaps }
after_table t (Submit session p noted) = record t { statuses = with_status (new_status (id_at t.rows p) session noted) t.statuses }
after_table t (Update session failed mark files) = record t { rows = with_edeks files t.rows; statuses = counted session (length files) failed mark t.statuses }
after_table t (Cancel session) = record t { statuses = ended session true t.statuses }
after_table t (Complete session) = record t { statuses = ended session false t.statuses }

-- no earlier operation used its id
abbrev pub is_fresh : List ℕ → EditOp → Bool
is_fresh used op = not (list_any (is_among used) (uses op))

abbrev pub applies : Replayed → EditOp → Bool
applies r op = allows r.table op && is_fresh r.used op

abbrev pub after : Replayed → EditOp → Replayed
after r op = record { table = after_table r.table op; used = uses op ++ r.used }

-- the opening that follows this table
abbrev pub next_opening : NameTable → EditOp
next_opening t = Opened (t.opening + 1)

-- the table and the ids, after the pending operation was settled: kept or dropped

abbrev pub settled_table : Bool → Option EditOp → NameTable → NameTable
settled_table kept None t = t
settled_table true (Some op) t = after_table t op
settled_table false (Some op) t = t

abbrev pub settled_used : Bool → Option EditOp → List ℕ → List ℕ
settled_used kept None used = used
settled_used true (Some op) used = uses op ++ used
settled_used false (Some op) used = used

-- the operation that was kept
abbrev pub kept_op : Bool → Option EditOp → Option EditOp
kept_op kept None = None
kept_op true (Some op) = Some op
kept_op false (Some op) = None

abbrev pub settled_log : Bool → Option EditOp → Replayed → Replayed
settled_log kept pending r = record { table = settled_table kept pending r.table; used = settled_used kept pending r.used }

-- the edit log as a log of records

abbrev pub is_opening : EditOp → Bool
is_opening (Opened opening) = true
is_opening _ = false

abbrev pub name_kind : LogKind
name_kind = record {
  file = 1;
  Op = EditOp;
  HasSpelling = HasSpelling;
  spelling = spelling;
  State = Replayed;
  empty = nothing_logged;
  applies = applies;
  after = after;
  settled = settled_log;
  next_opening = λ r. next_opening r.table;
  is_opening = is_opening;
}

-- the newly acknowledged operations, after the pending one was settled
abbrev pub settled_ops : Bool → Option EditOp → List EditOp
settled_ops = kinds.settled_ops name_kind

-- the rows of entries, whatever their paths
abbrev pub rows_of_entries : List Entry → List Row
rows_of_entries [] = []
rows_of_entries (e ∷ es) = e.row ∷ rows_of_entries es

-- the rows of all snapshots
abbrev pub snapped_rows : List Snapshot → List Row
snapped_rows [] = []
snapped_rows (s ∷ taken) = rows_of_entries s.rows ++ snapped_rows taken

-- the rows that the table keeps: those of its live entries, and those of its snapshots
abbrev pub kept_rows : NameTable → List Row
kept_rows t = rows_of_entries t.rows ++ snapped_rows t.snaps.taken

-- the row that has the id
abbrev pub row_of : List Entry → ℕ → Option Row
row_of rows id = option_map (λ e. e.row) (entry_of rows id)

-- the path of the row that has the id
abbrev pub path_of : List Entry → ℕ → List (List ℕ)
path_of rows id = option_map_or (λ e. e.path) (entry_of rows id) []

-- the snapshots fit the rows
pub record FitsRows (rows : List Entry) (snaps : SnapTable) : Type 0 where
  -- each directory that may have snapshots exists
  pub stand : All (λ (id : ℕ). is_dir_at (row_of rows id) ≡ true) snaps.allowed
  -- the path of each row of a snapshot, seen from the root, keeps the rule of paths
  pub whole : All (λ (s : Snapshot). All (λ (e : Entry). is_relative (path_of rows s.dir ++ e.path) ≡ true) s.rows) snaps.taken

-- what is always true of a table
pub record IsNameTable (t : NameTable) : Type 0 where
  pub rules : IsRows t.rows
  pub snaps : IsSnapshots t.snaps.allowed t.snaps.taken
  pub fits : FitsRows t.rows t.snaps
  pub statuses : StatusesFit t.rows t.statuses
