use Rattle.std.proofs.Common.{refl}
use Rattle.hk_events.specs.declared.event.Event.TheVariants as event
use Rattle.world_run.proofs.StepLemmas.{kms-happens}
use Rattle.world_run.proofs.world.World.call_keys.Goals as goal

pub returns : goal.returns
returns g c lines lists =
    kms-happens lines (g.D.Disk.state c.args.disk.now) (g.D.Disk.state c.act-reply.new.disk) c.args.self.now c.self.inside.keys c.act-reply.new.self c.self.inside.names c.self.inside.tickets.items c.self.inside.notes.items c.self.inside.batches.items c.self.inside.replies.items
    (g.W.Words.to_come c.args.words.now) (g.W.Words.to_come c.act-reply.new.words) c.args.now (event.Kms c.args.user c.args.call) c.args.user c.args.call c.act-reply.result c.self.view_is refl (c.act-reply.ensures lines) lists
