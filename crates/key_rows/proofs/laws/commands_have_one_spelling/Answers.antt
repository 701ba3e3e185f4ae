use Rattle.key_rows.proofs.RecordLemmas.{one_spelling, applying_fits}
use Rattle.key_rows.proofs.laws.commands_have_one_spelling.Goals as goal

pub returns-clause-one : goal.returns-clause-one
returns-clause-one c = one_spelling

pub returns-clause-applying : goal.returns-clause-applying
returns-clause-applying c = applying_fits
