use Rattle.name_core.proofs.AskLaws.{ids_stay_below}
use Rattle.name_core.proofs.KeepLemmas.{keeps-of}
use Rattle.name_core.proofs.LawLemmas.{ask_ids_rise, ids_rise}
use Rattle.name_core.proofs.laws.ids_rise.Goals as goal

pub returns-clause-rise : goal.returns-clause-rise
returns-clause-rise c = ids_rise

pub returns-clause-rise_by_asks : goal.returns-clause-rise_by_asks
returns-clause-rise_by_asks c = ask_ids_rise

pub returns-clause-below : goal.returns-clause-below
returns-clause-below c = keeps-of

pub returns-clause-stay : goal.returns-clause-stay
returns-clause-stay c = ids_stay_below
