use Rattle.text_laws.proofs.FaultLemmas.{not_both_readings, one_fault, one_list}
use Rattle.text_laws.proofs.properties_have_one_reading.Goals as goal

pub returns-clause-lists : goal.returns-clause-lists
returns-clause-lists c = one_list

pub returns-clause-faults : goal.returns-clause-faults
returns-clause-faults c = one_fault

pub returns-clause-either : goal.returns-clause-either
returns-clause-either c = not_both_readings
