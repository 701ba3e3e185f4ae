use Rattle.name_core.proofs.LawLemmas.{made_is_reported, others_stay}
use Rattle.name_core.proofs.laws.made_directories_are_reported.Goals as goal

pub returns-clause-shown : goal.returns-clause-shown
returns-clause-shown c = made_is_reported

pub returns-clause-others : goal.returns-clause-others
returns-clause-others c = others_stay
