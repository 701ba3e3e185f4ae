use Rattle.cell_workers.proofs.WorkLemmas.{fills_none, fills_then}
use Rattle.cell_workers.proofs.workers.WorkerPool.fill.Goals as goal

pub loop-init : goal.loop-init
loop-init g c = fills_none (g.V.Words.to_come c.args.words) (g.S.Turns.keys_seen c.args.keys)

pub returns-in-Err : goal.returns-in-Err
returns-in-Err g c = (g.V.Words.to_come c.loop.words, c.loop.invariant)

pub loop-preserved : goal.loop-preserved
loop-preserved g c =
    fills_then (g.V.Words.to_come c.args.words) (g.V.Words.to_come c.loop.words) (g.V.Words.to_come c.fill_all.new.words)
    (g.S.Turns.keys_seen c.args.keys) (g.S.Turns.keys_seen c.loop.keys) (g.S.Turns.keys_seen c.fill_all.new.keys) c.loop.invariant c.fill_all.ensures
