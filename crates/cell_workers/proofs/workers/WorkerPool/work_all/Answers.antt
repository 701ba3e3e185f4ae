use Rattle.std.proofs.Common.{[]}
use Rattle.cell_workers.specs.Work.{IsNameWork}
use Rattle.cell_workers.proofs.WorkLemmas.{works_none, works_then}
use Rattle.cell_workers.proofs.workers.WorkerPool.work_all.Goals as goal

pub loop-init : goal.loop-init
loop-init g c = works_none IsNameWork (g.S.Turns.names_seen c.args.names)

pub loop-preserved : goal.loop-preserved
loop-preserved g c =
    works_then IsNameWork (g.S.Turns.names_seen c.args.names) (g.S.Turns.names_seen c.loop.names) (g.S.Turns.names_seen c.work.new.names) [] c.loop.invariant c.work.ensures
