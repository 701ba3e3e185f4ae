use Rattle.world_run.specs.Drives.{Leads}
use Rattle.world_run.specs.Ready.{IsReady}
use Rattle.load_run.specs.Props.{open_lines}
use Rattle.load_run.proofs.TaskLemmas.{Doing}
use Rattle.load_run.proofs.run.do_task.Given as goal

abbrev pub invariant-events : goal.invariant-events
invariant-events g l = record {
  doing : Doing (Leads g.D.Disk.state g.W.Words.to_come open_lines 0) l.task (record { disk = l.fn.disk; world = l.fn.world; words = l.fn.words }) l.was_refused l.event (record { disk = l.disk; world = l.world; words = l.words });
  ready : IsReady open_lines (g.D.Disk.state l.disk) l.world;
}
