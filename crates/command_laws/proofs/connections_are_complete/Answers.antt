use Rattle.command_laws.proofs.PipeLemmas.{pipe_is_complete}
use Rattle.command_laws.proofs.connections_are_complete.Goals as goal

pub returns : goal.returns
returns g c = pipe_is_complete _ _ _ _ _ _ _ _ _ _ _ _ _ _ _ _
