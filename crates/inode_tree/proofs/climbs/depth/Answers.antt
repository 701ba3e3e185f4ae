use Rattle.std.proofs.Common.{arith}
use Rattle.inode_tree.proofs.Ups.{path-short, step-from, below-from, length-root}
use Rattle.inode_tree.proofs.climbs.depth.Goals as goal

pub overflow_add-d : goal.overflow_add-d
overflow_add-d c = let short = path-short c.args.nodes.now.items c.args.n in let some = step-from c.args.nodes.now.items c.requires.linked c.climb.m c.link.result.now c.climb.invariant.live c.climb-test.true c.link.ensures in omega arith

pub climb-preserved : goal.climb-preserved
climb-preserved c =
    let step = step-from c.args.nodes.now.items c.requires.linked c.climb.m c.link.result.now c.climb.invariant.live c.climb-test.true c.link.ensures in
    record { live = below-from c.args.nodes.now.items c.requires.linked c.climb.m c.link.result.now c.climb.invariant.live c.link.ensures; passed = omega arith }

pub climb-smaller : goal.climb-smaller
climb-smaller c = let step = step-from c.args.nodes.now.items c.requires.linked c.climb.m c.link.result.now c.climb.invariant.live c.climb-test.true c.link.ensures in omega arith

pub returns : goal.returns
returns c = let e = length-root c.args.nodes.now.items c.climb.m c.climb-test.false in omega arith
