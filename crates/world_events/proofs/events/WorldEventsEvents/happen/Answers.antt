use Rattle.world_run.proofs.ReadyLemmas.{ready-after-step}
use Rattle.world_events.proofs.events.WorldEventsEvents.happen.Goals as goal

pub returns-clause-ready : goal.returns-clause-ready
returns-clause-ready g c =
    ready-after-step (g.D.Disk.state c.args.self.now.disk.now) (g.D.Disk.state c.step.new.disk) c.args.self.now.world.now (g.W.Words.to_come c.args.self.now.words.now) c.args.self.now.now c.args.event c.step.result c.in-Ok.line
    c.step.new.self (g.W.Words.to_come c.step.new.words) c.requires.ready c.in-Ok.is c.step.ensures
