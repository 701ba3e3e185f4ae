use Rattle.name_core.proofs.WalkOrder.{batches_follow}
use Rattle.name_core.proofs.laws.batches_follow_one_another.Goals as goal

pub returns : goal.returns
returns c = batches_follow
