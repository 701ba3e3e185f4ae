-- Images of the namesystem's table, and which bytes are one.
use Rattle.std.specs.Prelude.{◌≡◌, ℕ, ◌+◌, ◌*◌, ◌^◌, ◌<◌, ◌≤◌, Bool, true, not, ◌&&◌, ◌||◌, ◌==◌, nat_le, nat_lt, List, [], ◌∷◌, ◌++◌, length, Option, Some, None, IsTrue}
use Rattle.std.specs.List.{All, AllByRecursion, list_all, list_any}
use Rattle.std.specs.Option.{option_and_then, option_map}
use Rattle.std.specs.Int.{w32, to_be_bytes}
use Rattle.std.specs.declared.cmp.Ordering.{Ordering}
use Rattle.std.specs.Ordering.{nat_cmp}
use Rattle.hk_base.specs.declared.names.KeyName.{KeyName}
use Rattle.hk_base.specs.Names.{IsKeyName}
use Rattle.name_calls.specs.Paths.{is_absolute, is_component, is_prefix, is_relative, parent}
use Rattle.inode_tree.specs.declared.rows.Kind.{Kind}
use Rattle.inode_tree.specs.declared.rows.Kind.TheVariants.{Dir, File}
use Rattle.inode_tree.specs.Rows.{Entry, entry_of, mark_of, row_at, zone_of}
use Rattle.snap_store.specs.Ordered.{IsRisingBy, put_by}
use Rattle.snap_store.specs.Snapshots.{Snapshot}
use Rattle.zone_table.specs.declared.statuses.StatusRow.{StatusRow}
use Rattle.zone_table.specs.Statuses.{is_of}
use Rattle.edit_ops.specs.Records.{IsEdek, IsKeyVersion, IsOpt}
use Rattle.name_store.specs.Table.{IsNameTable, NameTable, fits_zone, key_of_zone, path_of}
use Rattle.name_images.specs.Fields.{ids_field, many_field, rows_field, snapshot_field, status_field}

-- statuses by the ids of their zones
abbrev pub status_cmp : StatusRow → StatusRow → Ordering
status_cmp s t = nat_cmp s.zone t.zone

abbrev pub by_zone : List StatusRow → List StatusRow
by_zone [] = []
by_zone (s ∷ ss) = put_by status_cmp s (by_zone ss)

-- the table with its statuses in the order of the ids of their zones
abbrev pub in_image_order : NameTable → NameTable
in_image_order t = record t { statuses = by_zone t.statuses }

-- The bytes of a table: the last opening, the rows in path order, the ids of the snapshottable directories, the snapshots in the order of
-- directory and name, and the statuses in the order of their zones' ids.
abbrev pub name_image : NameTable → List ℕ
name_image t =
    to_be_bytes w32 t.opening ++ (rows_field t.rows ++ (ids_field t.snaps.allowed ++ (many_field snapshot_field t.snaps.taken ++ many_field status_field (by_zone t.statuses))))

-- which values have bytes of their own

-- the key of a directory, or the encrypted key of a file, keeps its rule
abbrev pub IsKind : Kind → Type 0
IsKind (Dir key) = IsOpt IsKeyName key
IsKind (File edek) = IsOpt IsEdek edek

pub record IsEntry (e : Entry) : Type 0 where
  pub path : is_relative e.path ≡ true
  pub id : e.row.id < 2 ^ 64
  pub kind : IsKind e.row.kind

-- a list whose number has four bytes
pub record IsCounted {X : Type 0} (Is : X → Type 0) (xs : List X) : Type 0 where
  pub count : length xs < 2 ^ 32
  pub each : AllByRecursion Is xs

pub record IsSpelledSnapshot (s : Snapshot) : Type 0 where
  pub dir : s.dir < 2 ^ 64
  pub name : is_component s.name ≡ true
  pub rows : IsCounted IsEntry s.rows

pub record IsSpelledStatus (s : StatusRow) : Type 0 where
  pub zone : s.zone < 2 ^ 64
  pub session : s.session < 2 ^ 64
  pub noted : IsKeyVersion s.noted
  pub mark : IsOpt (λ p. IsTrue (is_relative p)) s.mark
  pub reencrypted : s.reencrypted < 2 ^ 64
  pub failed : s.failed < 2 ^ 64

-- Each number is in its range, and paths, names and keys keep their rules.
pub record HasImage (t : NameTable) : Type 0 where
  pub opening : t.opening < 2 ^ 32
  pub rows : IsCounted IsEntry t.rows
  pub allowed : IsCounted (λ id. id < 2 ^ 64) t.snaps.allowed
  pub taken : IsCounted IsSpelledSnapshot t.snaps.taken
  pub statuses : IsCounted IsSpelledStatus t.statuses

-- what the table must keep besides

-- an id of an opening from the first one to the given one
abbrev pub is_of_opening_up_to : ℕ → ℕ → Bool
is_of_opening_up_to opening id = nat_le (2 ^ 32) id && nat_lt id ((opening + 1) * 2 ^ 32)

-- the root's id, or an id of an opening from the first one to the given one
abbrev pub is_id_up_to : ℕ → ℕ → Bool
is_id_up_to opening id = id == 0 || is_of_opening_up_to opening id

-- a directory, or a file that has an encrypted key exactly if it lies in a zone, and then of the zone's key
abbrev pub fits_key : Option KeyName → Kind → Bool
fits_key key (Dir mark) = true
fits_key key (File edek) = fits_zone key edek

-- the zone over a directory, whether or not it is one itself: that of its parent; there is none over the root
abbrev pub zone_over_path : List Entry → List (List ℕ) → Option Entry
zone_over_path rows [] = None
zone_over_path rows (x ∷ p) = zone_of rows (parent (x ∷ p))

abbrev pub or_zone : Option Entry → Option Entry → Option Entry
or_zone None other = other
or_zone (Some e) other = Some e

-- The zone that an entry of a snapshot lay in: the deepest marked directory of the snapshot at or above it, or else the zone over the
-- snapshot's directory.
abbrev pub zone_in_snap : List Entry → Snapshot → List (List ℕ) → Option Entry
zone_in_snap rows s p = or_zone (zone_of s.rows p) (zone_over_path rows (path_of rows s.dir))

abbrev pub key_of_entry : Option Entry → Option KeyName
key_of_entry zone = option_and_then (λ e. mark_of e.row.kind) zone

-- two rows are the same, or neither is inside the other
abbrev pub are_apart : List Entry → ℕ → ℕ → Bool
are_apart rows a b = a == b || not (is_prefix (path_of rows a) (path_of rows b))

abbrev pub is_apart_from : List Entry → List ℕ → ℕ → Bool
is_apart_from rows ids a = list_all (are_apart rows a) ids

-- no status of another zone has its session
abbrev pub is_own_session : List StatusRow → StatusRow → Bool
is_own_session statuses s = list_all (λ u. u.zone == s.zone || not (u.session == s.session)) statuses

-- a snapshot's first row is its directory's, its ids are of openings, and its files have the keys of the zones that they lay in
pub record IsSnapshotOf (t : NameTable) (s : Snapshot) : Type 0 where
  pub own : option_map (λ row. row.id) (row_at s.rows []) ≡ Some s.dir
  pub ids : All (λ e. is_id_up_to t.opening e.row.id ≡ true) s.rows
  pub keys : All (λ e. fits_key (key_of_entry (zone_in_snap t.rows s e.path)) e.row.kind ≡ true) s.rows

-- no zone has two statuses
abbrev pub zones_once : List StatusRow → Bool
zones_once [] = true
zones_once (s ∷ ss) = not (list_any (is_of s.zone) ss) && zones_once ss

-- a status's session, which is of an opening, is no other status's and no row's id
pub record IsStatusOf (t : NameTable) (s : StatusRow) : Type 0 where
  pub session : is_of_opening_up_to t.opening s.session ≡ true
  pub own : is_own_session t.statuses s ≡ true
  pub free : entry_of t.rows s.session ≡ None

-- What an image asks besides what is always true of a table.
pub record KeepsImageRules (t : NameTable) : Type 0 where
  pub few : length t.rows ≤ 1000000
  -- no path begins with `.reserved`
  pub paths : All (λ e. is_absolute e.path ≡ true) t.rows
  pub ids : All (λ e. is_id_up_to t.opening e.row.id ≡ true) t.rows
  pub keys : All (λ e. fits_key (key_of_zone t.rows e.path) e.row.kind ≡ true) t.rows
  -- no directory that may have snapshots is inside another
  pub apart : All (λ id. is_apart_from t.rows t.snaps.allowed id ≡ true) t.snaps.allowed
  pub snapshots : All (IsSnapshotOf t) t.snaps.taken
  pub zones : zones_once t.statuses ≡ true
  pub sessions : All (IsStatusOf t) t.statuses

-- The bytes are the image of the table, whose statuses are in the order of their zones' ids.
pub record IsNameImage (bytes : List ℕ) (t : NameTable) : Type 0 where
  pub is : bytes ≡ name_image t
  pub spelled : HasImage t
  pub order : IsRisingBy status_cmp t.statuses
  pub table : IsNameTable t
  pub rules : KeepsImageRules t
