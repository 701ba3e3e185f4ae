use Rattle.name_core.proofs.AskLaws.{finished_for_good, finished_once}
use Rattle.name_core.proofs.laws.asks_are_finished_once.Goals as goal

pub returns-clause-at_once : goal.returns-clause-at_once
returns-clause-at_once c = finished_once

pub returns-clause-later : goal.returns-clause-later
returns-clause-later c = finished_for_good
