use Rattle.std.proofs.Common.{take}
use Rattle.world_run.specs.Drives.{Leads}
use Rattle.world_run.specs.Ready.{IsReady}
use Rattle.load_run.specs.History.{DoesAll}
use Rattle.load_run.specs.Props.{open_lines}
use Rattle.load_run.proofs.run.do_all.Given as goal

abbrev pub invariant-loop-task : goal.invariant-loop-task
invariant-loop-task g l = record {
  does : DoesAll (Leads g.D.Disk.state g.W.Words.to_come open_lines 0) (take l.task-index l.tasks.items) (record { disk = l.fn.disk; world = l.fn.world; words = l.fn.words }) l.counts (record { disk = l.disk; world = l.world; words = l.words });
  ready : IsReady open_lines (g.D.Disk.state l.disk) l.world;
}
