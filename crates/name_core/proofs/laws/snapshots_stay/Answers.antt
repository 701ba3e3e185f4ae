use Rattle.name_core.proofs.SnapshotLaws.{settling_keeps_snapshots, snapshots_stay, steps_keep_snapshots}
use Rattle.name_core.proofs.SnapshotTimes.{snapshots_tell_the_same}
use Rattle.name_core.proofs.laws.snapshots_stay.Goals as goal

pub returns-clause-operations : goal.returns-clause-operations
returns-clause-operations c = snapshots_stay

pub returns-clause-settling : goal.returns-clause-settling
returns-clause-settling c = settling_keeps_snapshots

pub returns-clause-steps : goal.returns-clause-steps
returns-clause-steps c = steps_keep_snapshots

pub returns-clause-answers : goal.returns-clause-answers
returns-clause-answers c = snapshots_tell_the_same
