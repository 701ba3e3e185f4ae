use Rattle.cell_workers.proofs.WorkLemmas.{fills_both}
use Rattle.cell_workers.proofs.workers.WorkerPool.fillers.Goals as goal

pub returns : goal.returns
returns g c =
    let one = c.join-keys.ensures.first in
    let two = c.join-keys.ensures.second in
    fills_both (g.V.Words.to_come c.args.first) (g.V.Words.to_come c.args.second) one.0 two.0
    (g.S.Turns.keys_seen c.args.keys) (g.S.Turns.keys_seen c.split_keys-other.new.pass) (g.S.Turns.keys_seen c.join-keys.result.0) (g.S.Turns.keys_seen c.split_keys-other.result) (g.S.Turns.keys_seen c.join-keys.result.1) (g.S.Turns.keys_seen c.meet_keys.new.into)
    c.split_keys-other.ensures.same c.split_keys-other.ensures.new one.1 two.1 c.meet_keys.ensures
