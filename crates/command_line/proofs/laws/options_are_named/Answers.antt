use Rattle.command_line.proofs.OrderLemmas.{connections_name, options_name}
use Rattle.command_line.proofs.laws.options_are_named.Goals as goal

pub returns-clause-numbers : goal.returns-clause-numbers
returns-clause-numbers c = options_name

pub returns-clause-at_a_time : goal.returns-clause-at_a_time
returns-clause-at_a_time c = connections_name
