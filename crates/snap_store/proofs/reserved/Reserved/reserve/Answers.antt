use Rattle.snap_store.proofs.Blocks.{row-there}
use Rattle.snap_store.proofs.reserved.Reserved.reserve.Goals as goal

pub reserve_take-requires : goal.reserve_take-requires
reserve_take-requires c = row-there c.args.tree.now.rows c.args.dir c.in_ok-path-in-Some.path c.in_ok-path-in-Some.ensures
