use Rattle.hk_shared.proofs.TurnLemmas.{answer_serves, left_serves}
use Rattle.hk_shared.proofs.batches.serve_batch.Goals as goal

pub returns-in-Ok : goal.returns-in-Ok
returns-in-Ok g c =
    answer_serves g.K.D.Disk.state g.K.KeysCell.to_come (g.K.KeysCell.seen c.args.pass.now) (g.K.KeysCell.seen c.try_serve_batch.new.pass) c.args.note c.in-Ok.reply c.in-Ok.ensures.served

pub returns-in-Err : goal.returns-in-Err
returns-in-Err g c =
    left_serves g.K.D.Disk.state g.K.KeysCell.to_come (g.K.KeysCell.seen c.args.pass.now) (g.K.KeysCell.seen c.try_serve_batch.new.pass) c.args.note c.in-Err.note c.new.result c.in-Err.ensures.unserved c.new.ensures
