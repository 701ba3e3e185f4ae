use Rattle.name_cell.proofs.RunLemmas.{runs_after_logs}
use Rattle.name_cell.proofs.side.NameSide.call.Goals as goal

pub invariant_of-self : goal.invariant_of-self
invariant_of-self g c = runs_after_logs _ _ c.self.inside.names c.act.new.self _ _ c.act.ensures.disk c.self.invariant
