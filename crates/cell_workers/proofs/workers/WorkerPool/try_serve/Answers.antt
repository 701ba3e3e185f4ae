use Rattle.std.proofs.Common.{subst, sym}
use Rattle.cell_workers.specs.Batches.{BatchState, HasAnswer}
use Rattle.cell_workers.proofs.MeetLemmas.{answered_after_walk}
use Rattle.cell_workers.proofs.workers.WorkerPool.try_serve.Goals as goal

pub new-requires-clause-served : goal.new-requires-clause-served
new-requires-clause-served g c =
    let served = g.S.Turns.keys_seen c.try_serve_turn.new.pass in
    subst (λ (b : BatchState). HasAnswer b.front c.in-Ok-try_serve_turn.reply served) (sym c.split_keys-keys.ensures.same)
    (answered_after_walk g.S.Turns.state g.S.Turns.to_come c.args.batch.front (g.S.Turns.keys_seen c.split_keys-keys.result) served c.in-Ok.note c.in-Ok-try_serve_turn.reply c.split_keys-keys.ensures.lent c.in-Ok-try_serve_turn.ensures.served)
