use Rattle.std.proofs.Common.{[]}
use Rattle.cell_workers.specs.Work.{IsNameWork}
use Rattle.cell_workers.proofs.RoundLemmas.{lent_by_walk, works_walk}
use Rattle.cell_workers.proofs.WorkLemmas.{works_none, works_same, works_then}
use Rattle.cell_workers.proofs.workers.WorkerPool.walk.Goals as goal

pub returns-in_default : goal.returns-in_default
returns-in_default g c = works_none IsNameWork (g.S.Turns.names_seen c.args.names.now)

pub follow-requires : goal.follow-requires
follow-requires g c =
    lent_by_walk g.S.Turns.state g.S.Turns.to_come (g.S.Turns.names_seen c.args.names.now) (g.S.Turns.names_seen c.walk_turn.new.pass) (g.S.Turns.keys_seen c.in-Ok-walk_turn.lent.keys) c.in-Ok.path c.in-Ok-walk_turn.lent.walked c.in-Ok-walk_turn.lent.front c.in-Ok-walk_turn.ensures.lent

pub returns-in-Ok-walk_turn : goal.returns-in-Ok-walk_turn
returns-in-Ok-walk_turn g c =
    works_then IsNameWork (g.S.Turns.names_seen c.args.names.now) (g.S.Turns.names_seen c.walk_turn.new.pass) (g.S.Turns.names_seen c.follow.new.names) []
    (works_walk g.S.Turns.state g.S.Turns.to_come (g.S.Turns.names_seen c.args.names.now) (g.S.Turns.names_seen c.walk_turn.new.pass) (g.S.Turns.keys_seen c.in-Ok-walk_turn.lent.keys) c.in-Ok.path c.in-Ok-walk_turn.lent.walked c.in-Ok-walk_turn.lent.front c.in-Ok-walk_turn.ensures.lent)
    c.follow.ensures

pub returns-in-Err : goal.returns-in-Err
returns-in-Err g c =
    works_same IsNameWork (g.S.Turns.names_seen c.args.names.now) (g.S.Turns.names_seen c.args.names.now) (g.S.Turns.names_seen c.walk_turn.new.pass) [] c.in-Err.ensures.none (works_none IsNameWork (g.S.Turns.names_seen c.args.names.now))
