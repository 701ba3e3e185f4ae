use Rattle.cell_workers.specs.Work.{Fills}
use Rattle.cell_workers.proofs.workers.WorkerPool.fill_all.Given as goal

abbrev pub invariant-loop : goal.invariant-loop
invariant-loop g l = Fills (g.V.Words.to_come l.fn.words) (g.V.Words.to_come l.words) (g.S.Turns.keys_seen l.fn.keys) (g.S.Turns.keys_seen l.keys)
