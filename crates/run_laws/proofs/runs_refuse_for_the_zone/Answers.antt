use Rattle.run_laws.proofs.RunLaw.{runs_refuse_for_the_zone}
use Rattle.run_laws.proofs.runs_refuse_for_the_zone.Goals as goal

pub returns : goal.returns
returns c = runs_refuse_for_the_zone
