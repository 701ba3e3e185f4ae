use Rattle.std.proofs.Common.{[], ◌∷◌, ◌++◌}
use Rattle.cell_workers.specs.Work.{IsNameWork}
use Rattle.cell_workers.proofs.WorkLemmas.{works_from, works_met}
use Rattle.cell_workers.proofs.workers.WorkerPool.reencrypt.Goals as goal

pub returns : goal.returns
returns g c =
    let n = g.S.Turns.names_seen in
    let split = c.split_names-other in
    let done = c.join-other.result in
    let batches = c.join-other.ensures.second in (
      batches.0 ++ (n done.0).number ∷ [],
      works_met IsNameWork (n c.args.names) (n done.1) (n split.result) (n done.0) (n c.meet_names.new.into) batches.0 []
          (works_from IsNameWork (n c.args.names) (n split.new.pass) (n done.1) batches.0 split.ensures.same batches.1) split.ensures.new c.join-other.ensures.first c.meet_names.ensures,
    )
