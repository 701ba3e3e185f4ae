use Rattle.run_laws.proofs.ZoneRuns.{files_keep_zones, runs_keep_zones}
use Rattle.run_laws.proofs.files_keep_their_zones.Goals as goal

pub returns-clause-by_operation : goal.returns-clause-by_operation
returns-clause-by_operation c = files_keep_zones

pub returns-clause-in_runs : goal.returns-clause-in_runs
returns-clause-in_runs c = runs_keep_zones
