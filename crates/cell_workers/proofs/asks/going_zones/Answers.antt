use Rattle.std.proofs.Common.{sym, take}
use Rattle.std.proofs.lemmas.List.{take_all}
use Rattle.cell_workers.proofs.RoundLemmas.{asking_begins, asking_ends, asking_more, asking_stops}
use Rattle.cell_workers.proofs.asks.going_zones.Goals as goal

pub loop-zone-init : goal.loop-zone-init
loop-zone-init g c = asking_begins g.S.Turns.state g.S.Turns.to_come (g.S.Turns.names_seen c.args.names.now) c.new-going.result c.count_names.ensures.legal c.new-going.ensures

pub returns-in_err-shown : goal.returns-in_err-shown
returns-in_err-shown g c =
    asking_stops g.S.Turns.state g.S.Turns.to_come (g.S.Turns.names_seen c.args.names.now) (g.S.Turns.names_seen c.loop-zone.names) (g.S.Turns.names_seen c.is_going.new.names) (take c.loop-zone.zone-index c.args.zones.now) c.args.zones.now c.loop-zone.going c.is_going.result c.zone-item.result.path
    c.from_residual.result c.loop-zone.invariant c.is_going.ensures c.from_residual.ensures.0

pub returns-in_err-add_if : goal.returns-in_err-add_if
returns-in_err-add_if g c =
    asking_stops g.S.Turns.state g.S.Turns.to_come (g.S.Turns.names_seen c.args.names.now) (g.S.Turns.names_seen c.loop-zone.names) (g.S.Turns.names_seen c.is_going.new.names) (take c.loop-zone.zone-index c.args.zones.now) c.args.zones.now c.loop-zone.going c.is_going.result c.zone-item.result.path
    c.from_residual-in_err-add_if.result c.loop-zone.invariant c.is_going.ensures c.from_residual-in_err-add_if.ensures.0

pub loop-zone-preserved : goal.loop-zone-preserved
loop-zone-preserved g c =
    asking_more g.S.Turns.state g.S.Turns.to_come (g.S.Turns.names_seen c.args.names.now) (g.S.Turns.names_seen c.loop-zone.names) (g.S.Turns.names_seen c.is_going.new.names) c.args.zones.now c.loop-zone.zone-index c.zone-item.result c.loop-zone.going c.add_if.new.paths c.in_ok-shown.shown c.is_going.result
    c.loop-zone.invariant c.loop-zone-test.true (sym c.zone-item.is) c.in_ok-shown.was c.is_going.ensures c.in_ok-add_if.ensures

pub returns : goal.returns
returns g c =
    asking_ends g.S.Turns.state g.S.Turns.to_come (g.S.Turns.names_seen c.args.names.now) (g.S.Turns.names_seen c.loop-zone.names) c.args.zones.now c.loop-zone.zone-index c.loop-zone.going c.loop-zone.invariant (take_all c.loop-zone.zone-index c.args.zones.now c.loop-zone-test.false)
