use Rattle.snap_store.proofs.Blocks.{row-there}
use Rattle.snap_store.proofs.reserved.Reserved.take.Goals as goal

pub take-requires : goal.take-requires
take-requires c = row-there c.args.tree.now.rows c.args.dir c.in_ok-path.path c.in_ok-path.ensures.path
