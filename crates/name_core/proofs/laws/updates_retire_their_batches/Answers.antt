use Rattle.name_core.proofs.UpdateLaws.{kept_updates_retire, retired_is_ignored, updated_once, updates_retire}
use Rattle.name_core.proofs.laws.updates_retire_their_batches.Goals as goal

pub returns-clause-retires : goal.returns-clause-retires
returns-clause-retires c = updates_retire

pub returns-clause-kept : goal.returns-clause-kept
returns-clause-kept c = kept_updates_retire

pub returns-clause-ignored : goal.returns-clause-ignored
returns-clause-ignored c = retired_is_ignored

pub returns-clause-once : goal.returns-clause-once
returns-clause-once c = updated_once
