use Rattle.command_laws.proofs.ReplayLemmas.{replay_is_complete}
use Rattle.command_laws.proofs.replays_are_complete.Goals as goal

pub returns : goal.returns
returns g c = replay_is_complete _ _ _ _ _ _ _ _ _ _ _ _ _ _ _ _
