use Rattle.world_run.proofs.ReadyLemmas.{ready-after-drive}
use Rattle.world_desk.proofs.orders.drive.Goals as goal

pub returns-in-Some-clause-ready : goal.returns-in-Some-clause-ready
returns-in-Some-clause-ready g c =
    ready-after-drive g.D.Disk.state g.W.Words.to_come c.args.now c.in-Some.zone.now (record { disk = c.args.disk.now; world = c.args.world.now; words = c.args.words.now }) c.drive.result
    (record { disk = c.drive.new.disk; world = c.drive.new.self; words = c.drive.new.words }) c.requires.ready c.drive.ensures
