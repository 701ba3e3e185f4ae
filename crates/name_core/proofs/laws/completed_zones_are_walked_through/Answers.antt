use Rattle.name_core.proofs.WalkLaws.{completed_is_walked_through, walks_keep_rows}
use Rattle.name_core.proofs.laws.completed_zones_are_walked_through.Goals as goal

pub returns-clause-complete : goal.returns-clause-complete
returns-clause-complete c = completed_is_walked_through

pub returns-clause-rows : goal.returns-clause-rows
returns-clause-rows c = walks_keep_rows
