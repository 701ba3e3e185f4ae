use Rattle.text_laws.proofs.CommandLemmas.{asked_is_found, every_line, no_text, one_order, spelled_is_named}
use Rattle.text_laws.proofs.words_have_one_reading.Goals as goal

pub returns-clause-every : goal.returns-clause-every
returns-clause-every c = every_line

pub returns-clause-once : goal.returns-clause-once
returns-clause-once c = one_order

pub returns-clause-no_text : goal.returns-clause-no_text
returns-clause-no_text c = no_text

pub returns-clause-spelled : goal.returns-clause-spelled
returns-clause-spelled c = spelled_is_named

pub returns-clause-asked : goal.returns-clause-asked
returns-clause-asked c = asked_is_found
