use Rattle.std.proofs.Common.{[]}
use Rattle.cell_workers.specs.Work.{IsNameWork}
use Rattle.cell_workers.proofs.WorkLemmas.{works_entries, works_then}
use Rattle.cell_workers.proofs.workers.WorkerPool.send_going.Goals as goal

pub returns-in_err-zones : goal.returns-in_err-zones
returns-in_err-zones g c =
    let listed = c.list_zones.ensures in
    works_entries IsNameWork (g.S.Turns.names_seen c.args.names.now) (g.S.Turns.names_seen c.list_zones.new.names) listed.0 listed.1 listed.2

pub returns-in-Ok : goal.returns-in-Ok
returns-in-Ok g c =
    let listed = c.list_zones.ensures in
    let asked = c.going_zones-going.ensures in
    works_then IsNameWork (g.S.Turns.names_seen c.args.names.now) (g.S.Turns.names_seen c.list_zones.new.names) (g.S.Turns.names_seen c.going_zones-going.new.names) []
    (works_entries IsNameWork (g.S.Turns.names_seen c.args.names.now) (g.S.Turns.names_seen c.list_zones.new.names) listed.0 listed.1 listed.2)
    (works_entries IsNameWork (g.S.Turns.names_seen c.list_zones.new.names) (g.S.Turns.names_seen c.going_zones-going.new.names) asked.0 asked.1 asked.2)

pub returns-in-Err : goal.returns-in-Err
returns-in-Err g c =
    let listed = c.list_zones.ensures in
    let asked = c.going_zones-going.ensures in
    works_then IsNameWork (g.S.Turns.names_seen c.args.names.now) (g.S.Turns.names_seen c.list_zones.new.names) (g.S.Turns.names_seen c.going_zones-going.new.names) []
    (works_entries IsNameWork (g.S.Turns.names_seen c.args.names.now) (g.S.Turns.names_seen c.list_zones.new.names) listed.0 listed.1 listed.2)
    (works_entries IsNameWork (g.S.Turns.names_seen c.list_zones.new.names) (g.S.Turns.names_seen c.going_zones-going.new.names) asked.0 asked.1 asked.2)
