use Rattle.std.proofs.Common.{rules, IfOk, []}
use Rattle.cell_workers.specs.Rounds.{ListsZones}
use Rattle.cell_workers.proofs.MadeLemmas.{names_none}
use Rattle.cell_workers.proofs.RoundLemmas.{lists_zones, no_work}
use Rattle.cell_workers.proofs.asks.list_zones.Goals as goal

pub returns-in_err-user : goal.returns-in_err-user
returns-in_err-user g c =
    let failed : IfOk c.from_residual.result (λ zones. ListsZones zones []) = search rules in
    ([], names_none g.S.Turns.state g.S.Turns.to_come (g.S.Turns.names_seen c.args.names.now) c.count_names.ensures.legal, no_work g.S.Turns.state g.S.Turns.to_come, failed)

pub returns : goal.returns
returns g c =
    lists_zones g.S.Turns.state g.S.Turns.to_come (g.S.Turns.names_seen c.args.names.now) (g.S.Turns.names_seen c.call_names-reply.new.pass) c.in_ok-user.user c.call_names-reply.result c.zones_in.result c.in_ok-user.ensures c.call_names-reply.ensures c.zones_in.ensures
