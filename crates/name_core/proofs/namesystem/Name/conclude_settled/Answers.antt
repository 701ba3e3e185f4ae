use Rattle.std.proofs.Common.{◌∙◌, sym, subst}
use Rattle.edit_ops.specs.declared.ops.EditOp.{EditOp}
use Rattle.name_core.specs.Asks.{closed}
use Rattle.name_core.specs.State.{names_of}
use Rattle.name_core.specs.Steps.{MayWrite, Writes}
use Rattle.name_core.proofs.AllowedLemmas.{has-wanted, may-finish}
use Rattle.name_core.proofs.CallLemmas.{finish-refused, finish-wanting, finish-written, is-open}
use Rattle.name_core.proofs.namesystem.Name.conclude_settled.Goals as goal

pub returns-in-Some : goal.returns-in-Some
returns-in-Some g c = λ a is.
    finish-refused (g.D.Disk.state c.args.disk.now) c.args.self.now c.close.new.self c.args.id a c.args.edek c.in-Some.why is c.requires.settled
    (sym (c.finish_refusal.ensures a is) ∙ c.in-Some.is) c.close.ensures

pub returns-in-Err : goal.returns-in-Err
returns-in-Err g c = λ a is.
    finish-wanting (g.D.Disk.state c.args.disk.now) c.args.self.now a c.args.edek c.requires.settled (sym (c.finish_refusal.ensures a is) ∙ c.in_default.is)

pub finish_op-requires-clause-given : goal.finish_op-requires-clause-given
finish_op-requires-clause-given g c = λ a is.
    has-wanted c.args.self.now.store.table.rows c.args.self.now.store.table.statuses a c.args.edek a.ask (sym (c.finish_refusal.ensures a is) ∙ c.in_default.is)

pub write_finish-requires-clause-may : goal.write_finish-requires-clause-may
write_finish-requires-clause-may g c =
    let a = is-open c.args.self.now.asks c.args.id c.requires.asked in
    let rules = c.invariants.ensures.names in
    subst (λ (o : EditOp). MayWrite (names_of c.args.self.now) o (closed (names_of c.args.self.now) c.args.id)) (sym (c.in-Ok.ensures a.0 a.1))
    (may-finish (names_of c.args.self.now) c.args.id a.0 c.args.edek rules.opened rules.few rules.ids rules.recent a.1 (sym (c.finish_refusal.ensures a.0 a.1) ∙ c.in_default.is))

pub returns-in-Ok : goal.returns-in-Ok
returns-in-Ok g c = λ a is.
    let D0 = g.D.Disk.state c.args.disk.now in
    let D1 = g.D.Disk.state c.write_finish.new.disk in
    rw c.finished.ensures
    (finish-written D0 D1 c.args.self.now c.write_finish.new.self c.args.id a c.args.edek c.write_finish.result is (sym (c.finish_refusal.ensures a is) ∙ c.in_default.is)
    (subst (λ (o : EditOp). Writes D0 D1 c.args.self.now (closed (names_of c.args.self.now) c.args.id) o c.write_finish.result c.write_finish.new.self) (c.in-Ok.ensures a is) c.write_finish.ensures))
