-- Properties of the zones of a tree.
use Rattle.std.specs.Prelude.{◌≡◌, ◌++◌, ℕ, true, List, [], Some, None}
use Rattle.hk_base.specs.declared.names.KeyName.{KeyName}
use Rattle.inode_tree.specs.declared.rows.Kind.TheVariants.{Dir}
use Rattle.inode_tree.specs.Rows.{Entry, IsRows, entry_of, is_dir, mark_of, move_allowed, put, root_only, set_kind, zone_id}
use Rattle.inode_tree.specs.Moves.{CanMove, renamed}
use Rattle.zone_table.specs.Zones.{put_zone, zone_row, zones_of}

-- adding a row without a mark changes no zones
abbrev pub UnmarkedChangesNothing : Type 0
UnmarkedChangesNothing = (e : Entry) (rows : List Entry) → mark_of e.row.kind ≡ None → zones_of (put e rows) ≡ zones_of rows

-- a directory without a mark is not a zone, and is one once it is marked
abbrev pub MarkedIsAZone : Type 0
MarkedIsAZone =
    (rows : List Entry) (dir : Entry) (key : KeyName) → IsRows rows → entry_of rows dir.row.id ≡ Some dir → is_dir dir.row.kind ≡ true → mark_of dir.row.kind ≡ None
    → (zones_of (set_kind rows dir.row.id (Dir (Some key))) ≡ put_zone (record { dir = dir.row.id; key = key }) (zones_of rows)) × (zone_row (zones_of rows) dir.row.id ≡ None)

-- a tree of the root alone has no zones
abbrev pub RootHasNoZones : Type 0
RootHasNoZones = zones_of root_only ≡ []

-- moving rows to another path changes no zones, since these are kept by the ids of their directories
abbrev pub MovingChangesNothing : Type 0
MovingChangesNothing = (rows : List Entry) (p q : List (List ℕ)) → IsRows rows → zones_of (renamed p q rows) ≡ zones_of rows

-- if the parents of both paths lie in one zone, or both in none, what moves stays in its zone
abbrev pub MovedKeepsItsZone : Type 0
MovedKeepsItsZone =
    (rows : List Entry) (p q x : List (List ℕ)) → IsRows rows → CanMove rows p q → move_allowed rows p q ≡ true → zone_id (renamed p q rows) (q ++ x) ≡ zone_id rows (p ++ x)
