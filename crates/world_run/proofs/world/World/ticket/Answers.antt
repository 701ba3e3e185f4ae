use Rattle.std.proofs.Common.{◌∙◌, ◌++◌, ◌∷◌, [], List, ap, inl, inr, length}
use Rattle.eek_seal.specs.declared.tickets.Ticket.{Ticket}
use Rattle.kms_core.specs.Ready.{ticket_of}
use Rattle.kms_core.specs.State.{keys_of}
use Rattle.kms_core.specs.Users.{running}
use Rattle.world_run.specs.World.{RunningWorld}
use Rattle.world_run.proofs.StepLemmas.{gives-ticket, lacks-room, no-ticket, parts}
use Rattle.world_run.proofs.world.World.ticket.Goals as goal

pub returns-in-Err-clause-acts : goal.returns-in-Err-clause-acts
returns-in-Err-clause-acts c =
    inr (lacks-room c.args.self.now (parts c.self.inside.keys c.self.inside.names c.reserve.new.self.items c.self.inside.notes.items c.self.inside.batches.items c.self.inside.replies.items)
    (ap (λ (l : List Ticket). parts c.self.inside.keys c.self.inside.names l c.self.inside.notes.items c.self.inside.batches.items c.self.inside.replies.items) c.reserve.ensures.items ∙ c.self.view_is))

pub returns-in-None-clause-acts : goal.returns-in-None-clause-acts
returns-in-None-clause-acts c =
    inl (no-ticket c.args.self.now (parts c.self.inside.keys c.self.inside.names c.reserve.new.self.items c.self.inside.notes.items c.self.inside.batches.items c.self.inside.replies.items)
    (c.in-None.ensures ∙ ap (λ (w : RunningWorld). ticket_of (keys_of (running w.keys))) c.self.view_is)
    (ap (λ (l : List Ticket). parts c.self.inside.keys c.self.inside.names l c.self.inside.notes.items c.self.inside.batches.items c.self.inside.replies.items) c.reserve.ensures.items ∙ c.self.view_is))

pub returns-in-Some-clause-acts : goal.returns-in-Some-clause-acts
returns-in-Some-clause-acts c =
    inl (gives-ticket c.args.self.now c.self.inside.keys c.self.inside.names c.self.inside.tickets.items c.push_reserved.new.self.items c.self.inside.notes.items c.self.inside.batches.items c.self.inside.replies.items
    c.in-Some.ticket (length c.as_slice.result.now) c.version_of-version.result c.self.view_is c.in-Some.ensures
    (c.push_reserved.ensures.items ∙ ap (λ (l : List Ticket). l ++ c.in-Some.ticket ∷ []) c.reserve.ensures.items)
    (ap (λ (l : List Ticket). length l) c.as_slice.ensures.value) c.version_of-version.ensures)
