use Rattle.std.proofs.Common.{◌∙◌, ap, refl}
use Rattle.world_run.specs.World.{RunningWorld, numbered}
use Rattle.world_run.proofs.StepLemmas.{give-up-unknown, given-up}
use Rattle.world_run.proofs.world.World.give_up.Goals as goal

pub returns-in-None : goal.returns-in-None
returns-in-None g c =
    give-up-unknown (g.D.Disk.state c.args.disk.now) c.args.self.now c.args.self.now (numbered c.args.self.now.kept.batches c.args.number)
    (c.in-None.ensures ∙ ap (λ (w : RunningWorld). numbered w.kept.batches c.args.number) c.self.view_is) refl

pub returns-in-Some : goal.returns-in-Some
returns-in-Some g c =
    given-up (g.D.Disk.state c.args.disk.now) (g.D.Disk.state c.give_up.new.disk) c.args.self.now c.self.inside.keys c.self.inside.names c.give_up.new.self c.self.inside.tickets.items c.self.inside.notes.items c.self.inside.batches.items c.self.inside.replies.items
    (numbered c.args.self.now.kept.batches c.args.number) c.in-Some.batch.now c.give_up.result c.update_line.result c.self.view_is
    (c.in-Some.ensures ∙ ap (λ (w : RunningWorld). numbered w.kept.batches c.args.number) c.self.view_is) c.give_up.ensures c.update_line.ensures
