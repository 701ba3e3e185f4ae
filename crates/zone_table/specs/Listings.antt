-- The zones of a tree by the places of their directories in path order.
use Rattle.std.specs.Prelude.{ℕ, List, [], slice_get, Option, Some, None}
use Rattle.std.specs.Option.{option_map_or}
use Rattle.inode_tree.specs.Arena.{rank}
use Rattle.inode_tree.specs.Rows.{Entry, entry_of, mark_of}
use Rattle.name_calls.specs.declared.zone_list.ZonePath.{ZonePath}
use Rattle.zone_table.specs.Zones.{with_zone}

-- the number of rows before the row with an id
abbrev pub place_of : List Entry → ℕ → ℕ
place_of rows id = option_map_or (λ e. rank rows e.path) (entry_of rows id) 0

-- the zone of a row, if the row is marked
abbrev pub paths_of_entry : Option Entry → List ZonePath
paths_of_entry None = []
paths_of_entry (Some e) = with_zone (mark_of e.row.kind) e.path []

-- the zone at a place, if the row there is marked
abbrev pub listed_at : List Entry → ℕ → List ZonePath
listed_at rows at = paths_of_entry (slice_get rows at)
