use Rattle.std.proofs.Common.{◌<◌, ◌≤◌, length, arith}
use Rattle.reenc_walk.specs.Retiring.{batch_at}
use Rattle.reenc_walk.proofs.Retires.{retired-at, retired-none}
use Rattle.reenc_walk.proofs.batches.set_retired.Goals as goal

pub returns-then-at-len : goal.returns-then-at-len
returns-then-at-len c =
    let within : c.find-at.result < length c.args.batches.now.items = omega (arith, c.if-at-len.true, c.len.ensures, c.args.batches.now.ok.0) in
    retired-at c.args.sent.now c.args.batches.now.items c.find-at.result c.index_mut.result.now c.find-at.ensures within c.index_mut.ensures.value

pub returns-else-at-len : goal.returns-else-at-len
returns-else-at-len c =
    let past : length c.args.batches.now.items ≤ batch_at c.args.sent.now c.args.batches.now.items = omega (arith, c.if-at-len.false, c.len.ensures, c.args.batches.now.ok.0, c.find-at.ensures) in
    retired-none c.args.sent.now c.args.batches.now.items past
