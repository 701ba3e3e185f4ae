use Rattle.world_run.proofs.StepLemmas.{finished}
use Rattle.world_run.proofs.world.World.finish_ask.Goals as goal

pub returns : goal.returns
returns g c =
    finished (g.D.Disk.state c.args.disk.now) (g.D.Disk.state c.finish_with.new.disk) c.args.self.now c.self.inside.keys c.self.inside.names c.finish_with.new.self c.self.inside.tickets.items c.self.inside.notes.items c.self.inside.batches.items c.self.inside.replies.items
    c.args.id c.args.answer c.finish_with.result c.finish_line.result c.self.view_is c.finish_with.ensures c.finish_line.ensures
