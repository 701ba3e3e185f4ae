use Rattle.std.proofs.Common.{List, subst}
use Rattle.std.specs.Prelude.{IfOk}
use Rattle.load_run.specs.declared.counts.Counts.{Counts}
use Rattle.load_run.specs.declared.task.Task.{Task}
use Rattle.load_run.specs.Load.{Loads}
use Rattle.load_run.proofs.run.load.Goals as goal

pub returns : goal.returns
returns g c = record {
  loads = subst (λ (todo : List Task). IfOk c.load_with.result (λ (counts : Counts). Loads g.W.Words.to_come todo c.args.rand.now c.load_with.new.rand counts)) c.in_ok-tasks.ensures c.load_with.ensures.loads;
}
