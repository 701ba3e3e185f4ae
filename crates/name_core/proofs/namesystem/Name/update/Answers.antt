use Rattle.std.proofs.Common.{◌∙◌, sym, subst}
use Rattle.edit_ops.specs.declared.ops.EditOp.{EditOp}
use Rattle.name_calls.specs.declared.status.Delivered.{Delivered}
use Rattle.name_core.specs.State.{names_of}
use Rattle.name_core.specs.Steps.{MayWrite, UpdatesSettled, Writes, delivered_answer}
use Rattle.name_core.proofs.UpdateCalls.{update-wanting, update-written}
use Rattle.name_core.proofs.UpdateLemmas.{may-update, with_update}
use Rattle.name_core.proofs.namesystem.Name.update.Goals as goal

pub update_op-requires : goal.update_op-requires
update_op-requires g c = c.requires.may.0

pub returns-in-Err : goal.returns-in-Err
returns-in-Err g c = λ d is. update-wanting (g.D.Disk.state c.args.disk.now) c.args.self.now d c.args.note.now c.args.changes c.requires.settled is

pub write_update-requires-clause-may : goal.write_update-requires-clause-may
write_update-requires-clause-may g c =
    let s = names_of c.args.self.now in
    let rules = c.invariants.ensures.names in
    subst (λ (o : EditOp). MayWrite s o (with_update s c.args.note.now.sent)) (sym c.in-Ok.ensures)
    (may-update s c.args.note.now c.args.changes rules.opened rules.few rules.ids rules.recent c.requires.may)

pub returns-in-Ok : goal.returns-in-Ok
returns-in-Ok g c = λ d is.
    let D0 = g.D.Disk.state c.args.disk.now in
    let D1 = g.D.Disk.state c.write_update.new.disk in
    let s = names_of c.args.self.now in
    rw c.delivered.ensures
    (subst (λ (a : Delivered). UpdatesSettled D0 D1 c.args.self.now d (delivered_answer a c.write_update.result) c.write_update.new.self) (sym c.applied_answer-answer.ensures)
    (update-written D0 D1 c.args.self.now c.write_update.new.self d c.args.note.now c.args.changes c.write_update.result is
    (subst (λ (o : EditOp). Writes D0 D1 c.args.self.now (with_update s c.args.note.now.sent) o c.write_update.result c.write_update.new.self) c.in-Ok.ensures c.write_update.ensures)))
