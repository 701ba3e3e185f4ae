use Rattle.std.proofs.Common.{◌∙◌, ◌∷◌, ◌++◌, [], List, ap, length, refl}
use Rattle.world_run.specs.declared.kept.KeptReply.{KeptReply}
use Rattle.world_run.specs.declared.kept.KeptReply.TheVariants.{ToBatch}
use Rattle.world_run.specs.World.{RunningWorld, numbered}
use Rattle.world_run.proofs.StepLemmas.{parts, serve-no-room, serve-unknown, served}
use Rattle.world_run.proofs.world.World.serve.Goals as goal

pub returns-in-None : goal.returns-in-None
returns-in-None g c lines lists =
    serve-unknown lines (g.D.Disk.state c.args.disk.now) c.args.self.now c.args.self.now (g.W.Words.to_come c.args.words.now) c.args.now (numbered c.args.self.now.kept.batches c.args.number)
    (c.in-None.ensures ∙ ap (λ (w : RunningWorld). numbered w.kept.batches c.args.number) c.self.view_is) refl

pub returns-in-Err : goal.returns-in-Err
returns-in-Err g c lines lists =
    serve-no-room lines (g.D.Disk.state c.args.disk.now) c.args.self.now c.args.self.now (g.W.Words.to_come c.args.words.now) c.args.now (numbered c.args.self.now.kept.batches c.args.number) c.in-Some.batch.now
    (c.in-Some.ensures ∙ ap (λ (w : RunningWorld). numbered w.kept.batches c.args.number) c.self.view_is) refl

pub returns-in-Err-reserve : goal.returns-in-Err-reserve
returns-in-Err-reserve g c lines lists =
    serve-no-room lines (g.D.Disk.state c.args.disk.now) c.args.self.now (parts c.self.inside.keys c.self.inside.names c.self.inside.tickets.items c.self.inside.notes.items c.self.inside.batches.items c.reserve.new.self.items)
    (g.W.Words.to_come c.args.words.now) c.args.now (numbered c.args.self.now.kept.batches c.args.number) c.in-Some.batch.now
    (c.in-Some.ensures ∙ ap (λ (w : RunningWorld). numbered w.kept.batches c.args.number) c.self.view_is)
    (ap (λ (l : List KeptReply). parts c.self.inside.keys c.self.inside.names c.self.inside.tickets.items c.self.inside.notes.items c.self.inside.batches.items l) c.reserve.ensures.items ∙ c.self.view_is)

pub returns : goal.returns
returns g c lines lists =
    served lines (g.D.Disk.state c.args.disk.now) (g.D.Disk.state c.act-reply.new.disk) c.args.self.now (g.W.Words.to_come c.args.words.now) c.args.now c.in-Some.batch.now c.in-Ok.serving.note c.in-Ok.serving.call c.self.inside.superuser
    c.self.inside.keys c.act-reply.new.self c.self.inside.names c.self.inside.tickets.items c.self.inside.notes.items c.self.inside.batches.items c.self.inside.replies.items c.push_reserved.new.self.items c.act-reply.result c.reply_for-kept.result
    c.args.number (length c.as_slice.result.now) (g.W.Words.to_come c.act-reply.new.words) c.self.view_is
    (c.in-Some.ensures ∙ ap (λ (w : RunningWorld). numbered w.kept.batches c.args.number) c.self.view_is) c.in-Ok.ensures.note c.in-Ok.ensures.call c.self.invariant (c.act-reply.ensures lines) c.reply_for-kept.ensures
    (c.push_reserved.ensures.items ∙ ap (λ (l : List KeptReply). l ++ ToBatch c.reply_for-kept.result ∷ []) c.reserve.ensures.items) (ap (λ (l : List KeptReply). length l) c.as_slice.ensures.value) lists
