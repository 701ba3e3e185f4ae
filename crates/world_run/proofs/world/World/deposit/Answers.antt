use Rattle.std.proofs.Common.{◌∙◌, ap, refl}
use Rattle.world_run.specs.World.{RunningWorld, numbered}
use Rattle.world_run.proofs.StepLemmas.{deposit-unknown, deposited-key}
use Rattle.world_run.proofs.world.World.deposit.Goals as goal

pub returns-in-None : goal.returns-in-None
returns-in-None g c =
    deposit-unknown c.args.self.now c.args.self.now (g.W.Words.to_come c.args.words.now) (numbered c.args.self.now.kept.tickets c.args.number)
    (c.in-None.ensures ∙ ap (λ (w : RunningWorld). numbered w.kept.tickets c.args.number) c.self.view_is) refl

pub returns : goal.returns
returns g c =
    deposited-key c.args.self.now (g.W.Words.to_come c.args.words.now) (g.W.Words.to_come c.draw_sealed-sealed.new.words) c.self.inside.keys c.deposit.new.self c.self.inside.names
    c.self.inside.tickets.items c.self.inside.notes.items c.self.inside.batches.items c.self.inside.replies.items c.in-Some.ticket.now c.draw_sealed-sealed.result c.deposit.result c.args.number
    c.self.view_is (c.in-Some.ensures ∙ ap (λ (w : RunningWorld). numbered w.kept.tickets c.args.number) c.self.view_is)
    c.draw_sealed-sealed.ensures.key c.draw_sealed-sealed.ensures.rest c.deposit.ensures.answer c.deposit.ensures.queues
