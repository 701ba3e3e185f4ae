use Rattle.std.proofs.Common.{rules, ◌≡◌, false, true}
use Rattle.cell_workers.proofs.RoundLemmas.{walking_begins, walking_ends, walking_lacks, walking_on, walking_stops}
use Rattle.cell_workers.proofs.walks.walk_through.Goals as goal

pub loop-init : goal.loop-init
loop-init g c = walking_begins g.S.Turns.state g.S.Turns.to_come (g.S.Turns.names_seen c.args.names.now) c.args.zone.now c.count_names.ensures.legal

pub returns-in_err-path : goal.returns-in_err-path
returns-in_err-path g c =
    walking_stops g.S.Turns.state g.S.Turns.to_come (g.S.Turns.names_seen c.args.names.now) (g.S.Turns.names_seen c.loop.names) c.args.zone.now c.from_residual.result c.loop.invariant c.from_residual.ensures.0

pub returns-in_err-on : goal.returns-in_err-on
returns-in_err-on g c =
    walking_lacks g.S.Turns.state g.S.Turns.to_come (g.S.Turns.names_seen c.args.names.now) (g.S.Turns.names_seen c.loop.names) (g.S.Turns.names_seen c.walk_once.new.names) c.args.zone.now c.in_ok-path.path c.walk_once.result c.from_residual-in_err-on.result c.loop.invariant
    c.walk_once.ensures c.from_residual-in_err-on.ensures.0

pub returns-then-not-on : goal.returns-then-not-on
returns-then-not-on g c =
    let ended : c.in_ok-on.on ≡ false = search rules in
    walking_ends g.S.Turns.state g.S.Turns.to_come (g.S.Turns.names_seen c.args.names.now) (g.S.Turns.names_seen c.loop.names) (g.S.Turns.names_seen c.walk_once.new.names) c.args.zone.now c.in_ok-path.path c.walk_once.result c.in_ok-on.on c.loop.invariant
    c.in_ok-path.ensures c.in_ok-on.was ended c.walk_once.ensures

pub loop-preserved : goal.loop-preserved
loop-preserved g c =
    let on : c.in_ok-on.on ≡ true = search rules in
    walking_on g.S.Turns.state g.S.Turns.to_come (g.S.Turns.names_seen c.args.names.now) (g.S.Turns.names_seen c.loop.names) (g.S.Turns.names_seen c.walk_once.new.names) c.args.zone.now c.in_ok-path.path c.walk_once.result c.in_ok-on.on c.loop.invariant
    c.in_ok-path.ensures c.in_ok-on.was on c.walk_once.ensures
