use Rattle.cell_workers.specs.Work.{IsNameWork}
use Rattle.cell_workers.proofs.WorkLemmas.{works_none}
use Rattle.cell_workers.proofs.workers.WorkerPool.follow.Goals as goal

pub returns-in-Again : goal.returns-in-Again
returns-in-Again g c = works_none IsNameWork (g.S.Turns.names_seen c.args.names.now)

pub returns-in-Nothing : goal.returns-in-Nothing
returns-in-Nothing g c = works_none IsNameWork (g.S.Turns.names_seen c.args.names.now)
