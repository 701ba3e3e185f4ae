use Rattle.run_laws.proofs.SnapshotLaw.{runs_keep_snapshots}
use Rattle.run_laws.proofs.runs_keep_snapshots.Goals as goal

pub returns : goal.returns
returns c = runs_keep_snapshots
