use Rattle.replay_text.proofs.OnceLemmas.{spelled_once, quiet_spells_none}
use Rattle.replay_text.proofs.laws.lines_are_read_in_one_way.Goals as goal

pub returns-clause-once : goal.returns-clause-once
returns-clause-once c = spelled_once

pub returns-clause-quiet : goal.returns-clause-quiet
returns-clause-quiet c = quiet_spells_none
