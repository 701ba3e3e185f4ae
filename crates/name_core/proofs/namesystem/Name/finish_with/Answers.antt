use Rattle.std.proofs.Common.{sym, ◌∙◌}
use Rattle.name_core.proofs.CallLemmas.{finish-gone, finish-refused-call, not-open}
use Rattle.name_core.proofs.namesystem.Name.finish_with.Goals as goal

pub returns-then-not-is_open : goal.returns-then-not-is_open
returns-then-not-is_open g c =
    rw c.ask_gone.ensures (finish-gone (g.D.Disk.state c.args.disk.now) c.args.self.now c.args.id c.args.answer (not-open c.args.self.now.asks c.args.id (sym c.is_open.ensures ∙ c.if-not-is_open.true)))

pub returns-in-Refused : goal.returns-in-Refused
returns-in-Refused g c =
    rw c.in-Refused.is (finish-refused-call (g.D.Disk.state c.args.disk.now) c.args.self.now c.close.new.self c.args.id c.in-Refused.why (sym c.if-not-is_open.ensures) c.close.ensures)
