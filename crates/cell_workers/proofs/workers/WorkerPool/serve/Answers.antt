use Rattle.cell_workers.specs.Work.{IsNameWork}
use Rattle.cell_workers.proofs.WorkLemmas.{works_none}
use Rattle.cell_workers.proofs.workers.WorkerPool.serve.Goals as goal

pub returns-in-Err : goal.returns-in-Err
returns-in-Err g c = works_none IsNameWork (g.S.Turns.names_seen c.args.names.now)

pub returns-in-Ok-send : goal.returns-in-Ok-send
returns-in-Ok-send g c = works_none IsNameWork (g.S.Turns.names_seen c.args.names.now)
