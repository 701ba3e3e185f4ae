use Rattle.name_core.proofs.DeleteLaws.{deleted_is_gone, others_stay_by_delete}
use Rattle.name_core.proofs.laws.deleted_paths_are_gone.Goals as goal

pub returns-clause-gone : goal.returns-clause-gone
returns-clause-gone c = deleted_is_gone

pub returns-clause-others : goal.returns-clause-others
returns-clause-others c = others_stay_by_delete
