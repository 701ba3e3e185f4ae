use Rattle.server_laws.proofs.ServerFileLemmas.{servers_keep_files, unopened_keep_files}
use Rattle.server_laws.proofs.servers_keep_files_open.Goals as goal

pub returns-clause-served : goal.returns-clause-served
returns-clause-served g c = servers_keep_files _ _ _ _ _ _ _ _

pub returns-clause-unopened : goal.returns-clause-unopened
returns-clause-unopened g c = unopened_keep_files _ _
