use Rattle.std.proofs.Common.{◌∙◌, sym}
use Rattle.name_core.proofs.CallLemmas.{acts-changing, acts-early, acts-reading}
use Rattle.name_core.proofs.namesystem.Name.act.Goals as goal

pub returns-in-Some : goal.returns-in-Some
returns-in-Some g c = acts-early (g.D.Disk.state c.args.disk.now) c.args.self.now c.args.user.now c.args.call c.in-Some.why (sym c.early_refusal.ensures ∙ c.in-Some.is)

pub change-requires-clause-begins : goal.change-requires-clause-begins
change-requires-clause-begins g c = (c.args.user.now, sym c.early_refusal.ensures ∙ c.in_default.is)

pub returns-then-is_change : goal.returns-then-is_change
returns-then-is_change g c =
    acts-changing (g.D.Disk.state c.args.disk.now) (g.D.Disk.state c.change.new.disk) c.args.self.now c.change.new.self c.args.user.now c.args.call c.change.result
    (sym c.early_refusal.ensures ∙ c.in_default.is) (sym c.is_change.ensures ∙ c.if-is_change.true) c.change.ensures

pub returns : goal.returns
returns g c =
    acts-reading (g.D.Disk.state c.args.disk.now) c.args.self.now c.args.user.now c.args.call c.read-reply.result (sym c.early_refusal.ensures ∙ c.in_default.is)
    (sym c.is_change.ensures ∙ c.if-is_change.false) c.read-reply.ensures
