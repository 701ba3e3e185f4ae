use Rattle.hk_serve.proofs.ViewLemmas.{served_kept, served_seen}
use Rattle.world_desk.proofs.desk.serve_desk.Goals as goal

pub returns-clause-served : goal.returns-clause-served
returns-clause-served g c =
    let served = c.serve_conn.ensures.served in
    (served.0, served_seen (λ desk. record { disk = desk.disk.now; world = desk.world.now; words = desk.words.now }) _ _ (λ old new user done answer. answer.1) _ _ c.serve_conn.result served.1)

pub returns-clause-world : goal.returns-clause-world
returns-clause-world g c = served_kept (λ desk. desk.world.ghost_name) _ (λ old new user done tells. tells.0.0) _ _ c.serve_conn.result c.serve_conn.ensures.served.1

pub returns-clause-disk : goal.returns-clause-disk
returns-clause-disk g c = served_kept (λ desk. desk.disk.ghost_name) _ (λ old new user done tells. tells.0.1.0) _ _ c.serve_conn.result c.serve_conn.ensures.served.1

pub returns-clause-words : goal.returns-clause-words
returns-clause-words g c = served_kept (λ desk. desk.words.ghost_name) _ (λ old new user done tells. tells.0.1.1.0) _ _ c.serve_conn.result c.serve_conn.ensures.served.1

pub returns-clause-clock : goal.returns-clause-clock
returns-clause-clock g c = served_kept (λ desk. desk.clock.ghost_name) _ (λ old new user done tells. tells.0.1.1.1) _ _ c.serve_conn.result c.serve_conn.ensures.served.1
