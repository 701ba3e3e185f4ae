use Rattle.run_laws.proofs.RefusalLaw.{refused_for_its_zone}
use Rattle.run_laws.proofs.refused_files_changed_their_zone.Goals as goal

pub returns : goal.returns
returns c = refused_for_its_zone
