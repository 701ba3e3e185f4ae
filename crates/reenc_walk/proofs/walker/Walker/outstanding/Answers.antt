use Rattle.std.proofs.Common.{arith}
use Rattle.reenc_walk.proofs.Retires.{few-outstanding}
use Rattle.reenc_walk.proofs.walker.Walker.outstanding.Goals as goal

pub overflow_cast-result : goal.overflow_cast-result
overflow_cast-result c = omega (arith, few-outstanding c.self.inside.batches.items, c.count.ensures, c.self.invariant.1)
