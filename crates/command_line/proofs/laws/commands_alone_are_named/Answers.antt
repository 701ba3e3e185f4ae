use Rattle.command_line.proofs.OrderLemmas.{check_is_named, pipe_is_named, replay_is_named, serve_is_named}
use Rattle.command_line.proofs.laws.commands_alone_are_named.Goals as goal

pub returns-clause-replay : goal.returns-clause-replay
returns-clause-replay c = replay_is_named

pub returns-clause-pipe : goal.returns-clause-pipe
returns-clause-pipe c = pipe_is_named

pub returns-clause-serve : goal.returns-clause-serve
returns-clause-serve c = serve_is_named

pub returns-clause-check : goal.returns-clause-check
returns-clause-check c = check_is_named
