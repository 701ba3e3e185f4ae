use Rattle.std.proofs.Common.{◌≡◌, true}
use Rattle.world_run.specs.Drives.{Leads}
use Rattle.world_run.specs.Ready.{IsReady}
use Rattle.load_run.specs.declared.counts.Counts.{Counts}
use Rattle.load_run.specs.Counting.{is_good, with_answer, with_refused}
use Rattle.load_run.specs.History.{DoesTask}
use Rattle.load_run.specs.Props.{open_lines}
use Rattle.load_run.proofs.OkLemmas.{ok_any, ok_both}
use Rattle.load_run.proofs.TaskLemmas.{doing_begins, doing_on, task_done}
use Rattle.load_run.proofs.run.do_task.Goals as goal

pub events-init : goal.events-init
events-init g c = record {
  doing = doing_begins (Leads g.D.Disk.state g.W.Words.to_come open_lines 0) c.args.task (record { disk = c.args.disk.now; world = c.args.world.now; words = c.args.words.now }) c.in_ok-event.event c.in_ok-event.ensures;
  ready = c.requires.ready;
}

pub events-preserved : goal.events-preserved
events-preserved g c = record {
  doing =
      doing_on (Leads g.D.Disk.state g.W.Words.to_come open_lines 0) c.args.task (record { disk = c.args.disk.now; world = c.args.world.now; words = c.args.words.now }) c.events.was_refused c.events.event
      (record { disk = c.events.disk; world = c.events.world; words = c.events.words }) c.in_ok-answer.answer c.or_refused-was_refused.result (record { disk = c.happen.new.disk; world = c.happen.new.world; words = c.happen.new.words }) c.in-Event.next
      c.events.invariant.doing (record { led = c.in_ok-answer.ensures.leads; not_lacking = c.in_ok-answer.ensures.lacks; refused_is = c.or_refused-was_refused.ensures }) c.in-Event.ensures;
  ready = c.in_ok-answer.ensures.ready;
}

pub returns-in-End-clause-does : goal.returns-in-End-clause-does
returns-in-End-clause-does g c =
    ok_both (λ (after : Counts). after ≡ with_refused c.args.task c.or_refused-was_refused.result (with_answer c.args.task c.in_ok-answer.answer c.args.counts)) (λ (after : Counts). is_good c.args.task c.in_ok-answer.answer ≡ true)
    (λ (after : Counts). DoesTask (Leads g.D.Disk.state g.W.Words.to_come open_lines 0) c.args.task (record { disk = c.args.disk.now; world = c.args.world.now; words = c.args.words.now }) c.args.counts after (record { disk = c.happen.new.disk; world = c.happen.new.world; words = c.happen.new.words }))
    c.close_task.result
    (λ after counted good.
    task_done (Leads g.D.Disk.state g.W.Words.to_come open_lines 0) c.args.task (record { disk = c.args.disk.now; world = c.args.world.now; words = c.args.words.now }) c.events.was_refused c.events.event
    (record { disk = c.events.disk; world = c.events.world; words = c.events.words }) c.in_ok-answer.answer c.or_refused-was_refused.result (record { disk = c.happen.new.disk; world = c.happen.new.world; words = c.happen.new.words }) c.args.counts after
    c.events.invariant.doing (record { led = c.in_ok-answer.ensures.leads; not_lacking = c.in_ok-answer.ensures.lacks; refused_is = c.or_refused-was_refused.ensures }) c.in-End.ensures counted good)
    c.close_task.ensures.counted c.close_task.ensures.good

pub returns-in-End-clause-ready : goal.returns-in-End-clause-ready
returns-in-End-clause-ready g c = ok_any (IsReady open_lines (g.D.Disk.state c.happen.new.disk) c.happen.new.world) c.close_task.result c.in_ok-answer.ensures.ready
