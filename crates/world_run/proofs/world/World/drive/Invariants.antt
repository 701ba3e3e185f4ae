use Rattle.world_run.proofs.DriveRuns.{Driving}
use Rattle.world_run.proofs.world.World.drive.Given as goal

abbrev pub invariant-events : goal.invariant-events
invariant-events g l =
    Driving g.D.Disk.state g.W.Words.to_come l.now l.zone (record { disk = l.fn.disk; world = l.fn.self; words = l.fn.words }) l.event (record { disk = l.disk; world = l.self; words = l.words })
