use Rattle.name_core.proofs.WalkLaws.{cancel_ends, cancel_is_reported, others_go_on}
use Rattle.name_core.proofs.laws.cancelled_zones_are_reported.Goals as goal

pub returns-clause-ends : goal.returns-clause-ends
returns-clause-ends c = cancel_ends

pub returns-clause-others : goal.returns-clause-others
returns-clause-others c = others_go_on

pub returns-clause-shown : goal.returns-clause-shown
returns-clause-shown c = cancel_is_reported
