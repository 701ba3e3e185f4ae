use Rattle.edit_ops.proofs.RecordLemmas.{one_spelling, records_are_short, spelled_fits}
use Rattle.edit_ops.proofs.laws.operations_have_one_spelling.Goals as goal

pub returns-clause-one : goal.returns-clause-one
returns-clause-one c = one_spelling

pub returns-clause-fits : goal.returns-clause-fits
returns-clause-fits c = spelled_fits

pub returns-clause-short : goal.returns-clause-short
returns-clause-short c = records_are_short
