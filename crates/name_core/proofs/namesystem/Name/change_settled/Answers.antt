use Rattle.std.proofs.Common.{◌+◌, ℕ, ◌∙◌, sym, subst, ap}
use Rattle.name_core.specs.State.{names_of}
use Rattle.name_core.specs.Steps.{MayWrite}
use Rattle.name_core.proofs.AllowedLemmas.{may-write}
use Rattle.name_core.proofs.CallLemmas.{deed-is, done_deed, settled-refused, settled-written, takes-memory}
use Rattle.name_core.proofs.namesystem.Name.change_settled.Goals as goal

pub returns-in-Some : goal.returns-in-Some
returns-in-Some g c = settled-refused (g.D.Disk.state c.args.disk.now) c.args.self.now c.args.call c.in-Some.why c.requires.settled (sym c.change_refusal.ensures ∙ c.in-Some.is)

pub write-written-requires-clause-may : goal.write-written-requires-clause-may
write-written-requires-clause-may g c =
    let s = names_of c.args.self.now in
    let rules = c.invariants.ensures.names in
    subst (λ (n : ℕ). MayWrite s c.op_of-op.result (record s { next = s.next + n })) (sym c.ids_used-ids.ensures)
    (may-write s c.args.call c.op_of-op.result rules.opened rules.few rules.ids rules.recent c.requires.begins (sym c.change_refusal.ensures ∙ c.in_default.is) c.op_of-op.ensures)

pub returns : goal.returns
returns g c =
    let s = names_of c.args.self.now in
    rw c.reply_of.ensures
    (settled-written (g.D.Disk.state c.args.disk.now) (g.D.Disk.state c.write-written.new.disk) c.args.self.now c.write-written.new.self c.args.call c.op_of-op.result
    (record s { next = s.next + c.ids_used-ids.result }) c.write-written.result (takes-memory s c.args.call c.requires.change) (sym c.change_refusal.ensures ∙ c.in_default.is)
    (deed-is s c.args.call c.op_of-op.result c.op_of-op.ensures ∙ ap (λ (n : ℕ). done_deed c.op_of-op.result (record s { next = s.next + n })) (sym c.ids_used-ids.ensures)) c.write-written.ensures)
