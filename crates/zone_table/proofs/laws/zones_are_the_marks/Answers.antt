use Rattle.zone_table.proofs.Marks.{marked-is-a-zone, root-has-no-zones, unmarked-changes-nothing}
use Rattle.inode_tree.proofs.MovedZones.{zone-kept}
use Rattle.zone_table.proofs.Moves.{moving-changes-nothing}
use Rattle.zone_table.proofs.laws.zones_are_the_marks.Goals as goal

pub returns-clause-unmarked : goal.returns-clause-unmarked
returns-clause-unmarked c = unmarked-changes-nothing

pub returns-clause-marked : goal.returns-clause-marked
returns-clause-marked c = marked-is-a-zone

pub returns-clause-root : goal.returns-clause-root
returns-clause-root c = root-has-no-zones

pub returns-clause-moved : goal.returns-clause-moved
returns-clause-moved c = moving-changes-nothing

pub returns-clause-kept : goal.returns-clause-kept
returns-clause-kept c rows p q x is can allowed = zone-kept rows p q is can allowed x
