use Rattle.std.proofs.Common.{arith}
use Rattle.row_copies.proofs.PathLemmas.{may-add}
use Rattle.row_copies.proofs.paths.join_short.Goals as goal

pub add_name-requires : goal.add_name-requires
add_name-requires c = may-add c.args.to.now c.args.from.now c.loop-k.path c.loop-k.k c.name.result.now c.requires (omega (arith, c.loop-k-test.true, c.len-k-end.ensures.len)) c.loop-k.invariant c.name.ensures
