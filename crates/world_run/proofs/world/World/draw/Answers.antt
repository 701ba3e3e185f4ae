use Rattle.std.proofs.Common.{◌∙◌, ap, refl, ◌∷◌, ◌++◌, [], List, length, Some}
use Rattle.name_calls.specs.declared.calls.KeyAnswer.{KeyAnswer}
use Rattle.world_run.specs.declared.kept.KeptReply.{KeptReply}
use Rattle.world_run.specs.declared.kept.KeptReply.TheVariants.{ToAsk}
use Rattle.world_run.specs.World.{RunningWorld, numbered}
use Rattle.world_run.proofs.StepLemmas.{draw-no-room, draw-unknown, drew-note, parts}
use Rattle.world_run.proofs.world.World.draw.Goals as goal

pub returns-in-None : goal.returns-in-None
returns-in-None g c lines lists =
    draw-unknown lines (g.D.Disk.state c.args.disk.now) c.args.self.now c.args.self.now (g.W.Words.to_come c.args.words.now) c.args.now (numbered c.args.self.now.kept.notes c.args.number)
    (c.in-None.ensures ∙ ap (λ (w : RunningWorld). numbered w.kept.notes c.args.number) c.self.view_is) refl

pub returns-in-Err : goal.returns-in-Err
returns-in-Err g c lines lists =
    draw-no-room lines (g.D.Disk.state c.args.disk.now) c.args.self.now (parts c.self.inside.keys c.self.inside.names c.self.inside.tickets.items c.self.inside.notes.items c.self.inside.batches.items c.reserve.new.self.items)
    (g.W.Words.to_come c.args.words.now) c.args.now (numbered c.args.self.now.kept.notes c.args.number) c.in-Some.note.now
    (c.in-Some.ensures ∙ ap (λ (w : RunningWorld). numbered w.kept.notes c.args.number) c.self.view_is)
    (ap (λ (l : List KeptReply). parts c.self.inside.keys c.self.inside.names c.self.inside.tickets.items c.self.inside.notes.items c.self.inside.batches.items l) c.reserve.ensures.items ∙ c.self.view_is)

pub returns : goal.returns
returns g c lines lists =
    drew-note lines (g.D.Disk.state c.args.disk.now) (g.D.Disk.state c.call_wanted-reply.new.disk) c.args.self.now (g.W.Words.to_come c.args.words.now) c.args.now c.again-note.result c.self.inside.keys c.call_wanted-reply.new.keys c.self.inside.names
    c.self.inside.tickets.items c.self.inside.notes.items c.self.inside.batches.items c.self.inside.replies.items c.push_reserved.new.self.items c.call_wanted-reply.result c.args.number (length c.as_slice.result.now)
    (g.W.Words.to_come c.call_wanted-reply.new.words) c.self.view_is (ap Some c.again-note.ensures ∙ c.in-Some.ensures ∙ ap (λ (w : RunningWorld). numbered w.kept.notes c.args.number) c.self.view_is) (c.call_wanted-reply.ensures lines)
    (c.push_reserved.ensures.items
    ∙ ap (λ (l : List KeptReply). l ++ ToAsk c.again-note.result.id c.answer-answer.result ∷ []) c.reserve.ensures.items
    ∙ ap (λ (a : KeyAnswer). c.self.inside.replies.items ++ ToAsk c.again-note.result.id a ∷ []) c.answer-answer.ensures)
    (ap (λ (l : List KeptReply). length l) c.as_slice.ensures.value) lists
