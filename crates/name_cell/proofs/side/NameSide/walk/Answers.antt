use Rattle.name_cell.proofs.RunLemmas.{runs_after_logs}
use Rattle.name_cell.proofs.side.NameSide.walk.Goals as goal

pub invariant_of-self-2 : goal.invariant_of-self-2
invariant_of-self-2 g c = runs_after_logs _ _ c.self.inside.names c.walk-walked.new.self _ _ c.walk-walked.ensures.disk c.self.invariant
