use Rattle.server_run.proofs.FailureLemmas.{keys_failed, names_failed}
use Rattle.server_run.proofs.opening.open_logs.Goals as goal

pub returns-in-Err-clause-failed : goal.returns-in-Err-clause-failed
returns-in-Err-clause-failed g c = keys_failed _ _ _ c.requires.names c.in-Err.ensures.failed

pub returns-in-Err-open_names-clause-failed : goal.returns-in-Err-open_names-clause-failed
returns-in-Err-open_names-clause-failed g c = names_failed g.Y.Own.Disk.state _ _ _ _ _ _ _ c.in-Ok.ensures.opened c.in-Err-open_names.ensures.failed c.give.ensures.given
