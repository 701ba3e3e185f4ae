use Rattle.name_core.proofs.SnapshotLaws.{snapshot_is_listed, snapshot_is_reported}
use Rattle.name_core.proofs.laws.taken_snapshots_are_reported.Goals as goal

pub returns-clause-info : goal.returns-clause-info
returns-clause-info c = snapshot_is_reported

pub returns-clause-list : goal.returns-clause-list
returns-clause-list c = snapshot_is_listed
