use Rattle.server_laws.proofs.EndedLemmas.{servers_hold_logs, servers_judge}
use Rattle.server_laws.proofs.servers_hold_what_they_acknowledged.Goals as goal

pub returns-clause-logs : goal.returns-clause-logs
returns-clause-logs g c = servers_hold_logs _ _ _ _ _ _ _ _

pub returns-clause-verdicts : goal.returns-clause-verdicts
returns-clause-verdicts g c = servers_judge _ _ _ _ _ _ _ _
