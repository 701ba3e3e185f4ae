use Rattle.std.proofs.Common.{[], ◌∷◌}
use Rattle.cell_workers.specs.Work.{IsNameWork}
use Rattle.cell_workers.proofs.WorkLemmas.{works_from, works_met}
use Rattle.cell_workers.proofs.workers.WorkerPool.batch_workers.Goals as goal

pub returns : goal.returns
returns g c =
    let n = g.S.Turns.names_seen in
    let split = c.split_names-other in
    let done = c.join-names.result in (
      (n done.1).number ∷ [],
      works_met IsNameWork (n c.args.names) (n done.0) (n split.result) (n done.1) (n c.meet_names.new.into) [] []
          (works_from IsNameWork (n c.args.names) (n split.new.pass) (n done.0) [] split.ensures.same c.join-names.ensures.first) split.ensures.new c.join-names.ensures.second c.meet_names.ensures,
    )
