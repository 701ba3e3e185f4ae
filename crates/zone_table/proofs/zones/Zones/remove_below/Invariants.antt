use Rattle.std.proofs.Common.{◌-◌, ◌≡◌, ◌≤◌}
use Rattle.inode_tree.specs.Arena.{rank}
use Rattle.zone_table.specs.Zones.{zones_of}
use Rattle.zone_table.proofs.Kept.{kept_rows}
use Rattle.zone_table.proofs.zones.Zones.remove_below.Given as goal

abbrev pub invariant-loop-at : goal.invariant-loop-at
invariant-loop-at l = (l.self.rows ≡ zones_of (kept_rows l.path l.at l.tree.rows)) × (rank l.tree.rows l.path ≤ l.at)

abbrev pub decreases-loop-at : goal.decreases-loop-at
decreases-loop-at l = l.rows - l.at
