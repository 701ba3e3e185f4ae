use Rattle.std.proofs.Common.{◌∙◌, ap, sym}
use Rattle.name_core.specs.State.{RunningNames, names_of}
use Rattle.name_core.specs.Updates.{deliver_deed}
use Rattle.name_core.proofs.UpdateCalls.{delivery-deed, delivery-ignored, delivery-may, delivery-wanting}
use Rattle.name_core.proofs.namesystem.Name.deliver_settled.Goals as goal

pub returns-then-not-is_outstanding : goal.returns-then-not-is_outstanding
returns-then-not-is_outstanding g c =
    delivery-ignored (g.D.Disk.state c.args.disk.now) c.args.self.now c.args.reply.now c.note-note.result.now c.ignored.result c.requires.settled c.note-note.ensures
    (sym c.is_outstanding.ensures ∙ c.if-not-is_outstanding.true) c.ignored.ensures

pub returns-in-Err : goal.returns-in-Err
returns-in-Err g c =
    delivery-wanting (g.D.Disk.state c.args.disk.now) c.args.self.now c.args.reply.now c.note-note.result.now c.requires.settled c.note-note.ensures (sym c.is_outstanding.ensures ∙ c.if-not-is_outstanding.false)

pub update-requires-clause-may : goal.update-requires-clause-may
update-requires-clause-may g c =
    delivery-may (names_of c.args.self.now) c.args.reply.now c.note-note.result.now c.tree.result.now.rows c.in-Ok.changes c.note-note.ensures (c.tree.ensures.rows ∙ ap (λ (x : RunningNames). x.store.table.rows) c.self.view_is) (sym c.is_outstanding.ensures ∙ c.if-not-is_outstanding.false)
    c.in-Ok.ensures c.invariants.ensures.names.once c.result.ensures.fits

pub returns-in-Ok : goal.returns-in-Ok
returns-in-Ok g c =
    c.update.ensures (deliver_deed c.args.reply.now)
    (delivery-deed (names_of c.args.self.now) c.args.reply.now c.note-note.result.now c.tree.result.now.rows c.in-Ok.changes c.note-note.ensures (c.tree.ensures.rows ∙ ap (λ (x : RunningNames). x.store.table.rows) c.self.view_is)
    (sym c.is_outstanding.ensures ∙ c.if-not-is_outstanding.false) c.in-Ok.ensures)
