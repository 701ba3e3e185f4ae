use Rattle.std.proofs.Common.{[]}
use Rattle.cell_workers.specs.Work.{IsNameWork}
use Rattle.cell_workers.proofs.WorkLemmas.{works_entries, works_then}
use Rattle.cell_workers.proofs.workers.WorkerPool.serve_again.Goals as goal

pub returns : goal.returns
returns g c =
    let asked = c.is_going-going.ensures in
    works_then IsNameWork (g.S.Turns.names_seen c.args.names.now) (g.S.Turns.names_seen c.is_going-going.new.names) (g.S.Turns.names_seen c.serve.new.names) []
    (works_entries IsNameWork (g.S.Turns.names_seen c.args.names.now) (g.S.Turns.names_seen c.is_going-going.new.names) asked.0 asked.1 asked.2) c.serve.ensures
