use Rattle.std.proofs.Common.{◌∙◌, ap, refl}
use Rattle.std.specs.Option.{option_and_then}
use Rattle.world_run.specs.Step.{ask_of}
use Rattle.world_run.specs.World.{RunningWorld, numbered}
use Rattle.world_run.proofs.StepLemmas.{finish-unknown, so-finished}
use Rattle.world_run.proofs.world.World.finish.Goals as goal

pub returns-in-None : goal.returns-in-None
returns-in-None g c =
    finish-unknown (g.D.Disk.state c.args.disk.now) c.args.self.now c.args.self.now (numbered c.args.self.now.kept.replies c.args.number)
    (c.in-None.ensures ∙ ap (λ (w : RunningWorld). option_and_then ask_of (numbered w.kept.replies c.args.number)) c.self.view_is) refl

pub returns-in-Some : goal.returns-in-Some
returns-in-Some g c =
    so-finished (g.D.Disk.state c.args.disk.now) (g.D.Disk.state c.finish_ask.new.disk) c.args.self.now c.finish_ask.new.self (numbered c.args.self.now.kept.replies c.args.number) c.in-Some.id c.in-Some.answer c.finish_ask.result
    (c.in-Some.ensures ∙ ap (λ (w : RunningWorld). option_and_then ask_of (numbered w.kept.replies c.args.number)) c.self.view_is) c.finish_ask.ensures
