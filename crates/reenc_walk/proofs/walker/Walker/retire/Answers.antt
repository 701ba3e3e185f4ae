use Rattle.std.proofs.Common.{◌≡◌, length, ap, sym, subst, arith}
use Rattle.reenc_walk.specs.Walks.{StartsOutstanding, from_outstanding, retired}
use Rattle.reenc_walk.proofs.Retires.{few-from, same-retired, starts-from}
use Rattle.reenc_walk.proofs.walker.Walker.retire.Goals as goal

pub invariant_of-self : goal.invariant_of-self
invariant_of-self c =
    let e = c.retire.ensures in
    let n : length c.retire.new.batches.items ≡ length (from_outstanding (retired c.args.sent.now c.self.inside.batches.items)) = ap length c.retire.ensures in (
      subst StartsOutstanding (sym c.retire.ensures) (starts-from (retired c.args.sent.now c.self.inside.batches.items)),
      omega (arith, n, few-from (retired c.args.sent.now c.self.inside.batches.items), same-retired c.args.sent.now c.self.inside.batches.items, c.self.invariant.1),
    )
