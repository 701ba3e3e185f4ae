use Rattle.run_laws.proofs.WalkLaws.{batches_are_once, batches_share_no_file, repeated_is_ignored}
use Rattle.run_laws.proofs.batches_share_no_file.Goals as goal

pub returns-clause-apart : goal.returns-clause-apart
returns-clause-apart c = batches_share_no_file

pub returns-clause-once : goal.returns-clause-once
returns-clause-once c = batches_are_once

pub returns-clause-ignored : goal.returns-clause-ignored
returns-clause-ignored c = repeated_is_ignored
