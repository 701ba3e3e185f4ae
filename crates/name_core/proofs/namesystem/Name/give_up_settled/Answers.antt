use Rattle.std.proofs.Common.{◌∙◌, ap, refl, sym}
use Rattle.reenc_update.specs.declared.changes.Changes.{Changes}
use Rattle.reenc_update.specs.Changes.{all_failed}
use Rattle.name_core.specs.State.{names_of}
use Rattle.name_core.specs.Updates.{applied, give_up_deed}
use Rattle.name_core.proofs.UpdateCalls.{deed-applied, deed-ignored, update-ignored}
use Rattle.name_core.proofs.namesystem.Name.give_up_settled.Goals as goal

pub returns-then-not-is_outstanding : goal.returns-then-not-is_outstanding
returns-then-not-is_outstanding g c =
    update-ignored (g.D.Disk.state c.args.disk.now) c.args.self.now (give_up_deed c.args.note.now) c.args.note.now c.ignored.result c.requires.settled
    (deed-ignored (names_of c.args.self.now) c.args.note.now (all_failed c.args.note.now.sent) (sym c.is_outstanding.ensures ∙ c.if-not-is_outstanding.true)) c.ignored.ensures

pub update-requires-clause-may : goal.update-requires-clause-may
update-requires-clause-may g c = rw c.all_failed-changes.ensures (sym c.is_outstanding.ensures ∙ c.if-not-is_outstanding.false, refl)

pub returns : goal.returns
returns g c =
    c.update.ensures (give_up_deed c.args.note.now)
    (deed-applied (names_of c.args.self.now) c.args.note.now (all_failed c.args.note.now.sent) (sym c.is_outstanding.ensures ∙ c.if-not-is_outstanding.false)
    ∙ ap (λ (x : Changes). applied (names_of c.args.self.now) c.args.note.now x) (sym c.all_failed-changes.ensures))
