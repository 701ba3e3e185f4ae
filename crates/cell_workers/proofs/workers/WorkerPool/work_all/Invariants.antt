use Rattle.std.proofs.Common.{[]}
use Rattle.cell_workers.specs.Work.{IsNameWork, Works}
use Rattle.cell_workers.proofs.workers.WorkerPool.work_all.Given as goal

abbrev pub invariant-loop : goal.invariant-loop
invariant-loop g l = Works IsNameWork (g.S.Turns.names_seen l.fn.names) [] (g.S.Turns.names_seen l.names)
