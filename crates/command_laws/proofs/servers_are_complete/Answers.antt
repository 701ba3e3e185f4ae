use Rattle.command_laws.proofs.ServeLemmas.{serve_is_complete}
use Rattle.command_laws.proofs.servers_are_complete.Goals as goal

pub returns : goal.returns
returns g c = serve_is_complete _ _ _ _ _ _ _ _ _ _ _ _ _ _ _ _ _ _ _ _ _
