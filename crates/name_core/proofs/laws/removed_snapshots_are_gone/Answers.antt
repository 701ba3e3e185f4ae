use Rattle.name_core.proofs.SnapshotLaws.{unsnap_is_gone}
use Rattle.name_core.proofs.laws.removed_snapshots_are_gone.Goals as goal

pub returns : goal.returns
returns c = unsnap_is_gone
