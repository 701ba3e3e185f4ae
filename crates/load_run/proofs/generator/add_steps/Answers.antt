use Rattle.load_run.proofs.StepLemmas.{appended, drawn}
use Rattle.load_run.proofs.generator.add_steps.Goals as goal

pub loop-step-preserved : goal.loop-step-preserved
loop-step-preserved c =
    let next = drawn c.args.count c.loop-step.step c.loop-step.x c.random_after-x.result c.loop-step.invariant.random c.random_after-x.ensures in record {
      tasks =
          appended c.args.count c.loop-step.step c.random_after-x.result c.upper_half.result c.step_by.result c.args.tasks.now.items c.loop-step.tasks.items c.push.new.self.items
          next c.upper_half.ensures c.step_by.ensures c.loop-step.invariant.tasks c.in_ok-push.ensures.items;
      random = next;
    }
