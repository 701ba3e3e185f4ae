use Rattle.std.proofs.Common.{◌++◌}
use Rattle.cell_workers.proofs.MadeLemmas.{names_then}
use Rattle.cell_workers.proofs.RoundLemmas.{round_stops, round_whole}
use Rattle.cell_workers.proofs.round.last_round.Goals as goal

pub returns-in_err-zones : goal.returns-in_err-zones
returns-in_err-zones g c =
    let listed = c.list_zones.ensures in
    round_stops g.S.Turns.state g.S.Turns.to_come (g.S.Turns.names_seen c.args.names.now) (g.S.Turns.names_seen c.list_zones.new.names) listed.0 c.from_residual.result listed.1 c.from_residual.ensures.0

pub returns-in_err-going : goal.returns-in_err-going
returns-in_err-going g c =
    let listed = c.list_zones.ensures in
    let statuses = c.going_zones-going.ensures in
    round_stops g.S.Turns.state g.S.Turns.to_come (g.S.Turns.names_seen c.args.names.now) (g.S.Turns.names_seen c.going_zones-going.new.names) (listed.0 ++ statuses.0) c.from_residual-in_err-going.result
    (names_then g.S.Turns.state g.S.Turns.to_come (g.S.Turns.names_seen c.args.names.now) (g.S.Turns.names_seen c.list_zones.new.names) (g.S.Turns.names_seen c.going_zones-going.new.names) listed.0 statuses.0 listed.1 statuses.1) c.from_residual-in_err-going.ensures.0

pub returns : goal.returns
returns g c =
    round_whole g.S.Turns.state g.S.Turns.to_come (g.S.Turns.names_seen c.args.names.now) (g.S.Turns.names_seen c.list_zones.new.names) (g.S.Turns.names_seen c.going_zones-going.new.names) (g.S.Turns.names_seen c.walk_through_all-walked.new.names) c.in_ok-zones.zones c.as_slice.result.now
    c.in_ok-going.going c.as_slice-2.result.now c.walk_through_all-walked.result c.in_ok-zones.ensures c.as_slice.ensures c.in_ok-going.ensures c.as_slice-2.ensures c.walk_through_all-walked.ensures
