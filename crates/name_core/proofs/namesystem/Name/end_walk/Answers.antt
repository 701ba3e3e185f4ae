use Rattle.std.proofs.Common.{◌+◌, ℕ, sym, subst}
use Rattle.edit_ops.specs.declared.ops.EditOp.TheVariants as op
use Rattle.name_core.specs.State.{names_of}
use Rattle.name_core.specs.Steps.{MayWrite}
use Rattle.name_core.proofs.AllowedLemmas.{may-complete}
use Rattle.name_core.proofs.WalkCalls.{walk-ended, walk-left}
use Rattle.name_core.proofs.namesystem.Name.end_walk.Goals as goal

pub returns-then-outstanding-gt0 : goal.returns-then-outstanding-gt0
returns-then-outstanding-gt0 g c =
    walk-left (g.D.Disk.state c.args.disk.now) c.args.self.now c.args.zone.now c.session_at-session.result c.outstanding-outstanding.result c.requires.settled c.requires.free c.requires.end
    c.session_at-session.ensures c.outstanding-outstanding.ensures c.if-outstanding-gt0.true

pub write-requires-clause-may : goal.write-requires-clause-may
write-requires-clause-may g c =
    let s = names_of c.args.self.now in
    let rules = c.invariants.ensures.names in
    subst (λ (n : ℕ). MayWrite s (op.Complete n) (record s { next = s.next + 0 })) (sym c.session_at-session.ensures)
    (may-complete s c.args.zone.now rules.opened rules.few rules.ids rules.recent c.requires.free)

pub returns : goal.returns
returns g c =
    rw c.completed.ensures
    (walk-ended (g.D.Disk.state c.args.disk.now) (g.D.Disk.state c.write.new.disk) c.args.self.now c.write.new.self c.args.zone.now c.session_at-session.result c.outstanding-outstanding.result c.write.result
    c.requires.free c.requires.end c.session_at-session.ensures c.outstanding-outstanding.ensures c.if-outstanding-gt0.false c.write.ensures)
