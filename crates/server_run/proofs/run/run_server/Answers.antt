use Rattle.std.proofs.Common.{◌∙◌, ap, sym}
use Rattle.server_run.proofs.RunLemmas.{closed_so, ends_so, faults_so, none_rose, opened_in_vain, ran_server, store_rose}
use Rattle.server_run.proofs.run.run_server.Goals as goal

pub returns-in-Err-clause-ends : goal.returns-in-Err-clause-ends
returns-in-Err-clause-ends g c = opened_in_vain _ _ _ _ _ _ _ _ _ _ _ _ _ _ _ _ c.in-Ok.ensures.opened (ap g.A.Door.state c.in-Err.ensures.unserved)

ends : goal.returns-clause-ends
ends g c =
    ends_so _ _ _ _ _ _ _ _ _ _ _ _ _ c.in-Ok-served.served.1 c.give_both-failed.result _ c.run_end.ensures
    (ran_server _ _ _ _ _ _ _ _ _ _ _ _ _ _ _ _ _ _ _ _ _ _ _ c.in-Ok.ensures.opened c.in-Ok-served.ensures.ran c.into_disks-keys.ensures.keys c.into_disks-keys.ensures.names c.give_both-failed.ensures.given c.give_both-failed.ensures.failed)

pub returns-clause-ends : goal.returns-clause-ends
returns-clause-ends g c = ends g c

pub returns-clause-closed : goal.returns-clause-closed
returns-clause-closed g c is = closed_so _ _ _ _ _ _ _ _ _ _ _ _ _ c.run_end.result (ends g c) is

pub returns-clause-door_fault : goal.returns-clause-door_fault
returns-clause-door_fault g c is = faults_so c.in-Ok-served.served.1 c.give_both-failed.result _ c.in-Ok-served.ensures.cause (sym c.run_end.ensures ∙ is)

pub returns-clause-store_fault : goal.returns-clause-store_fault
returns-clause-store_fault g c is = store_rose _ _ _ _ _ _ _ _ _ _ _ _ _ c.run_end.result (ends g c) is

pub returns-clause-no_fault : goal.returns-clause-no_fault
returns-clause-no_fault g c is = none_rose _ _ _ _ _ _ _ _ _ _ _ _ _ c.run_end.result (ends g c) is
