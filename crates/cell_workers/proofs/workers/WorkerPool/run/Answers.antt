use Rattle.cell_workers.proofs.WorkLemmas.{pool_works}
use Rattle.cell_workers.proofs.workers.WorkerPool.run.Goals as goal

pub returns : goal.returns
returns g c =
    let n = g.S.Turns.names_seen in
    let work = c.join.ensures.second in
    pool_works (g.V.Words.to_come c.args.first) (g.V.Words.to_come c.args.second) (g.S.Turns.keys_seen c.args.keys) (g.S.Turns.keys_seen c.join.result.0) (n c.args.names) (n c.send_going.new.names) (n c.join.result.1) work.0
    c.join.ensures.first c.send_going.ensures work.1
