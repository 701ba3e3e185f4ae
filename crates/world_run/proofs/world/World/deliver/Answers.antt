use Rattle.std.proofs.Common.{◌∙◌, ap, refl}
use Rattle.std.specs.Option.{option_and_then}
use Rattle.world_run.specs.Batches.{batch_reply_of}
use Rattle.world_run.specs.World.{RunningWorld, numbered}
use Rattle.world_run.proofs.StepLemmas.{deliver-unknown, delivered}
use Rattle.world_run.proofs.world.World.deliver.Goals as goal

pub returns-in-None : goal.returns-in-None
returns-in-None g c =
    deliver-unknown (g.D.Disk.state c.args.disk.now) c.args.self.now c.args.self.now (numbered c.args.self.now.kept.replies c.args.number)
    (c.in-None.ensures ∙ ap (λ (w : RunningWorld). option_and_then batch_reply_of (numbered w.kept.replies c.args.number)) c.self.view_is) refl

pub returns-in-Some : goal.returns-in-Some
returns-in-Some g c =
    delivered (g.D.Disk.state c.args.disk.now) (g.D.Disk.state c.deliver.new.disk) c.args.self.now c.self.inside.keys c.self.inside.names c.deliver.new.self c.self.inside.tickets.items c.self.inside.notes.items c.self.inside.batches.items c.self.inside.replies.items
    (numbered c.args.self.now.kept.replies c.args.number) c.in-Some.reply.now c.deliver.result c.update_line.result c.self.view_is
    (c.in-Some.ensures ∙ ap (λ (w : RunningWorld). option_and_then batch_reply_of (numbered w.kept.replies c.args.number)) c.self.view_is) c.deliver.ensures c.update_line.ensures
