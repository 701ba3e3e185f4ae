use Rattle.server_run.proofs.RunLemmas.{ran}
use Rattle.server_run.proofs.run.serve_named.Goals as goal

pub returns-clause-ran : goal.returns-clause-ran
returns-clause-ran g c k begins =
    ran _ _ _ _ _ _ _ _ _ _ k _ _ _ _ _ _ _ _ _ begins c.named-shared.ensures c.serve_all-end.ensures.serves c.close-closed.ensures.closes c.close-closed.ensures.keys_run c.close-closed.ensures.names_run
    c.count.ensures.rules c.invariants.ensures.names c.count.ensures.file c.invariants.ensures.file
