-- The table that is told from its parts in memory.
use Rattle.std.specs.Prelude.{ℕ}
use Rattle.inode_tree.specs.Rows.{TreeState}
use Rattle.snap_store.specs.Snapshots.{SnapState}
use Rattle.zone_table.specs.Statuses.{StatusesState}
use Rattle.name_store.specs.Table.{NameTable}

abbrev pub table_of : ℕ → TreeState → SnapState → StatusesState → NameTable
table_of opening tree snaps statuses = record { opening = opening; rows = tree.rows; snaps = snaps.table; statuses = statuses.rows }
