use Rattle.std.proofs.Common.{refl}
use Rattle.name_core.proofs.WalkCalls.{next-new, next-placed}
use Rattle.name_core.proofs.walks.next.Goals as goal

pub returns-in-Some : goal.returns-in-Some
returns-in-Some c =
    next-placed c.args.tree.now.rows c.args.zone c.args.size c.args.status.now c.args.walks.now.items c.in-Some.at c.index_mut.result.now c.next_batch.new.self c.next_batch.result _
    c.in-Some.ensures c.index_mut.ensures.value c.next_batch.ensures refl

pub returns-in-None : goal.returns-in-None
returns-in-None c =
    next-new c.args.tree.now.rows c.args.zone c.args.size c.args.status.now c.args.walks.now.items c.begin.result c.begin.new.walks.items c.in-None.ensures c.begin.ensures
