use Rattle.std.proofs.Common.{◌≡◌, ◌++◌}
use Rattle.load_run.specs.Generator.{random, steps}
use Rattle.load_run.proofs.generator.add_steps.Given as goal

abbrev pub invariant-loop-step : goal.invariant-loop-step
invariant-loop-step l = record { tasks : l.tasks.items ≡ l.fn.tasks.items ++ steps l.count l.step; random : l.x ≡ random l.count l.step }
