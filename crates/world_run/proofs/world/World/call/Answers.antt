use Rattle.world_run.proofs.StepLemmas.{called}
use Rattle.world_run.proofs.world.World.call.Goals as goal

pub returns : goal.returns
returns g c =
    called (g.D.Disk.state c.args.disk.now) (g.D.Disk.state c.act.new.disk) c.args.self.now c.self.inside.keys c.self.inside.names c.act.new.self c.self.inside.tickets.items c.self.inside.notes.items c.self.inside.batches.items c.self.inside.replies.items c.args.user.now c.args.call
    c.act.result c.self.view_is c.act.ensures
