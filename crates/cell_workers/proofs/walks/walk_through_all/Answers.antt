use Rattle.std.proofs.Common.{sym, take}
use Rattle.std.proofs.lemmas.List.{take_all}
use Rattle.cell_workers.proofs.RoundLemmas.{all_begins, all_ends, all_more, all_stops}
use Rattle.cell_workers.proofs.walks.walk_through_all.Goals as goal

pub loop-zone-init : goal.loop-zone-init
loop-zone-init g c = all_begins g.S.Turns.state g.S.Turns.to_come (g.S.Turns.names_seen c.args.names.now) c.count_names.ensures.legal

pub returns : goal.returns
returns g c =
    all_ends g.S.Turns.state g.S.Turns.to_come (g.S.Turns.names_seen c.args.names.now) (g.S.Turns.names_seen c.loop-zone.names) c.args.zones.now c.loop-zone.zone-index c.loop-zone.invariant (take_all c.loop-zone.zone-index c.args.zones.now c.loop-zone-test.false)

pub returns-in_err-walk_through : goal.returns-in_err-walk_through
returns-in_err-walk_through g c =
    all_stops g.S.Turns.state g.S.Turns.to_come (g.S.Turns.names_seen c.args.names.now) (g.S.Turns.names_seen c.loop-zone.names) (g.S.Turns.names_seen c.walk_through.new.names) (take c.loop-zone.zone-index c.args.zones.now) c.args.zones.now
    c.zone-item.result c.walk_through.result c.from_residual.result c.loop-zone.invariant c.walk_through.ensures c.from_residual.ensures.0

pub loop-zone-preserved : goal.loop-zone-preserved
loop-zone-preserved g c =
    all_more g.S.Turns.state g.S.Turns.to_come (g.S.Turns.names_seen c.args.names.now) (g.S.Turns.names_seen c.loop-zone.names) (g.S.Turns.names_seen c.walk_through.new.names) c.args.zones.now c.loop-zone.zone-index c.zone-item.result
    c.walk_through.result c.in_ok-walk_through.field-0 c.loop-zone.invariant c.loop-zone-test.true (sym c.zone-item.is) c.in_ok-walk_through.was c.walk_through.ensures
