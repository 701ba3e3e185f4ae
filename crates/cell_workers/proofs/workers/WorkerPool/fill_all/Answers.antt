use Rattle.cell_workers.proofs.WorkLemmas.{fills_more, fills_none}
use Rattle.cell_workers.proofs.workers.WorkerPool.fill_all.Goals as goal

pub loop-init : goal.loop-init
loop-init g c = fills_none (g.V.Words.to_come c.args.words.now) (g.S.Turns.keys_seen c.args.keys.now)

pub returns-in-NothingLow : goal.returns-in-NothingLow
returns-in-NothingLow g c =
    fills_more g.S.Turns.state g.S.Turns.to_come (g.V.Words.to_come c.args.words.now) (g.V.Words.to_come c.loop.words) (g.V.Words.to_come c.fill_turn.new.words)
    (g.S.Turns.keys_seen c.args.keys.now) (g.S.Turns.keys_seen c.loop.keys) (g.S.Turns.keys_seen c.fill_turn.new.pass) c.fill_turn.result c.loop.invariant c.fill_turn.ensures

pub loop-preserved : goal.loop-preserved
loop-preserved g c =
    fills_more g.S.Turns.state g.S.Turns.to_come (g.V.Words.to_come c.args.words.now) (g.V.Words.to_come c.loop.words) (g.V.Words.to_come c.fill_turn.new.words)
    (g.S.Turns.keys_seen c.args.keys.now) (g.S.Turns.keys_seen c.loop.keys) (g.S.Turns.keys_seen c.fill_turn.new.pass) c.fill_turn.result c.loop.invariant c.fill_turn.ensures
