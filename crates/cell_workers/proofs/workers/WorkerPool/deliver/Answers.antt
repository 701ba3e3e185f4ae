use Rattle.cell_workers.proofs.RoundLemmas.{works_delivery}
use Rattle.cell_workers.proofs.workers.WorkerPool.deliver.Goals as goal

pub returns-in-Walk : goal.returns-in-Walk
returns-in-Walk g c =
    works_delivery g.S.Turns.state g.S.Turns.to_come (g.S.Turns.names_seen c.args.names.now) (g.S.Turns.names_seen c.update_turn-answer.new.names) (g.S.Turns.keys_seen c.into_parts-batch.result.2) c.into_parts-batch.result.1 c.into_parts-batch.result.3 c.update_turn-answer.result
    c.into_parts-batch.ensures.served c.update_turn-answer.ensures

pub returns-in-Again : goal.returns-in-Again
returns-in-Again g c =
    works_delivery g.S.Turns.state g.S.Turns.to_come (g.S.Turns.names_seen c.args.names.now) (g.S.Turns.names_seen c.update_turn-answer.new.names) (g.S.Turns.keys_seen c.into_parts-batch.result.2) c.into_parts-batch.result.1 c.into_parts-batch.result.3 c.update_turn-answer.result
    c.into_parts-batch.ensures.served c.update_turn-answer.ensures

pub returns-in-Nothing : goal.returns-in-Nothing
returns-in-Nothing g c =
    works_delivery g.S.Turns.state g.S.Turns.to_come (g.S.Turns.names_seen c.args.names.now) (g.S.Turns.names_seen c.update_turn-answer.new.names) (g.S.Turns.keys_seen c.into_parts-batch.result.2) c.into_parts-batch.result.1 c.into_parts-batch.result.3 c.update_turn-answer.result
    c.into_parts-batch.ensures.served c.update_turn-answer.ensures
