-- The zones, as one list of their rows by the ids of their directories.
use Rattle.std.specs.Prelude.{ℕ, nat_lt, ◌==◌, List, [], ◌∷◌, Option, Some, None, if◌then◌else◌}
use Rattle.hk_base.specs.declared.names.KeyName.{KeyName}
use Rattle.inode_tree.specs.Rows.{Entry, mark_of}
use Rattle.zone_table.specs.declared.zones.ZoneRow.{ZoneRow}
use Rattle.name_calls.specs.declared.zone_list.ZonePath.{ZonePath}

-- the rows of the zones, and the capacity for more
pub record ZoneState : Type 0 where
  pub rows : List ZoneRow
  pub spare : ℕ

-- the capacity that one more zone needs
abbrev pub need_add : ℕ → KeyName → ℕ
need_add dir key = 1

-- the zone of this directory
abbrev pub zone_row : List ZoneRow → ℕ → Option ZoneRow
zone_row [] dir = None
zone_row (z ∷ zs) dir = if z.dir == dir then Some z else zone_row zs dir

-- the zones with one more, at its place
abbrev pub put_zone : ZoneRow → List ZoneRow → List ZoneRow
put_zone z [] = z ∷ []
put_zone z (x ∷ xs) = if nat_lt z.dir x.dir then z ∷ x ∷ xs else x ∷ put_zone z xs

-- the zones of a table's entries, by the ids of their directories
abbrev pub by_directory : List (ℕ × KeyName) → List ZoneRow
by_directory [] = []
by_directory (e ∷ es) = put_zone (record { dir = e.0; key = e.1 }) (by_directory es)

-- the zones without that of this directory
abbrev pub without_zone : List ZoneRow → ℕ → List ZoneRow
without_zone [] dir = []
without_zone (z ∷ zs) dir = if z.dir == dir then zs else z ∷ without_zone zs dir

-- the zones with that of this directory, if it has a mark
abbrev pub with_mark : Option KeyName → ℕ → List ZoneRow → List ZoneRow
with_mark None dir zones = zones
with_mark (Some key) dir zones = put_zone (record { dir = dir; key = key }) zones

-- the zones that the marks of a tree's rows make
abbrev pub zones_of : List Entry → List ZoneRow
zones_of [] = []
zones_of (e ∷ es) = with_mark (mark_of e.row.kind) e.row.id (zones_of es)

-- the zones by their paths with one more at the front, if the row is marked
abbrev pub with_zone : Option KeyName → List (List ℕ) → List ZonePath → List ZonePath
with_zone None path zones = zones
with_zone (Some key) path zones = record { path = path; key = key } ∷ zones

-- the zones by their paths, in path order
abbrev pub zone_paths : List Entry → List ZonePath
zone_paths [] = []
zone_paths (e ∷ es) = with_zone (mark_of e.row.kind) e.path (zone_paths es)
