-- The table of the namesystem as it is kept in memory.
use Rattle.std.specs.Prelude.{◌≡◌, ℕ, ◌≤◌, ◌<◌, Option, ⊤}
use Rattle.name_calls.specs.declared.paths.NPath.{NPath}
use Rattle.inode_tree.specs.Rows.{need}
use Rattle.zone_table.specs.Zones.{need_add}
use Rattle.zone_table.specs.Statuses.{need_status}
use Rattle.snap_store.specs.Snapshots.{IsSnapshotReady, SnapRoom}
use Rattle.edit_ops.specs.declared.ops.EditOp.{EditOp}
use Rattle.edit_ops.specs.declared.ops.EditOp.TheVariants.{Opened, Mkdir, File, Remove, Rename, Zone, Allow, Disallow, Snap, Unsnap, Submit, Update, Cancel, Complete}
use Rattle.name_store.specs.Causes.{id_at}
use Rattle.name_store.specs.Table.{NameTable}

-- the table, the room that its tree, its zones, its snapshots and its statuses keep, and a copy of the mark of an update
pub record NamesState : Type 0 where
  pub table : NameTable
  pub tree_spare : ℕ
  pub zone_spare : ℕ
  pub snap_room : SnapRoom
  pub status_spare : ℕ
  pub mark : Option NPath

-- the operation takes no more memory than there is room for
abbrev pub HasRoom : EditOp → NamesState → Type 0
HasRoom (Opened opening) s = ⊤
HasRoom (Mkdir id p) s = need p ≤ s.tree_spare
HasRoom (File id p edek) s = need p ≤ s.tree_spare
HasRoom (Remove p) s = ⊤
HasRoom (Rename p q) s = need q ≤ s.tree_spare
HasRoom (Zone p key) s = need_add (id_at s.table.rows p) key ≤ s.zone_spare
HasRoom (Allow p) s = 0 < s.snap_room.ids
HasRoom (Disallow p) s = ⊤
HasRoom (Snap p name) s = IsSnapshotReady s.snap_room s.table.rows (id_at s.table.rows p) name
HasRoom (Unsnap p name) s = ⊤
HasRoom (Submit session p noted) s = need_status ≤ s.status_spare
HasRoom (Update session failed mark files) s = s.mark ≡ mark
HasRoom (Cancel session) s = ⊤
HasRoom (Complete session) s = ⊤

-- the mark of an update was copied
abbrev pub HasMark : EditOp → NamesState → Type 0
HasMark (Update session failed mark files) s = s.mark ≡ mark
HasMark _ s = ⊤
