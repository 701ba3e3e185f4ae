use Rattle.std.proofs.Common.{ℕ, ◌+◌, ◌<◌, List, ap, arith, get_or, length, take}
use Rattle.world_run.specs.Drives.{Leads}
use Rattle.load_run.specs.declared.task.Task.{Task}
use Rattle.load_run.specs.declared.task.Task.TheVariants as task
use Rattle.load_run.specs.Props.{open_lines}
use Rattle.load_run.proofs.TaskLemmas.{one_more_done, task_taken}
use Rattle.load_run.proofs.run.do_all.Goals as goal

pub loop-task-preserved : goal.loop-task-preserved
loop-task-preserved g c =
    let same_length = ap (λ (xs : List Task). length xs) c.deref-task-items.ensures.value in
    let within : c.loop-task.task-index < length c.deref-task-items.result.now = omega (arith, same_length) in record {
      does =
          one_more_done (Leads g.D.Disk.state g.W.Words.to_come open_lines 0) (take c.loop-task.task-index c.args.tasks.now.items) (take (c.loop-task.task-index + 1) c.args.tasks.now.items)
          (get_or c.deref-task-items.result.now c.loop-task.task-index (task.MakeKey 0)) (record { disk = c.args.disk.now; world = c.args.world.now; words = c.args.words.now }) c.loop-task.counts
          (record { disk = c.loop-task.disk; world = c.loop-task.world; words = c.loop-task.words }) c.in_ok-next.next (record { disk = c.do_task.new.disk; world = c.do_task.new.world; words = c.do_task.new.words })
          c.loop-task.invariant.does c.in_ok-next.ensures.does
          (task_taken c.args.tasks.now.items c.deref-task-items.result.now c.loop-task.task-index (task.MakeKey 0) c.deref-task-items.ensures.value within);
      ready = c.in_ok-next.ensures.ready;
    }
