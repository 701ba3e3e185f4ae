use Rattle.std.proofs.Common.{rules, IfOk, []}
use Rattle.cell_workers.specs.Rounds.{ShowsStatus}
use Rattle.cell_workers.proofs.MadeLemmas.{names_none}
use Rattle.cell_workers.proofs.RoundLemmas.{no_work, shows_status}
use Rattle.cell_workers.proofs.asks.is_going.Goals as goal

pub returns-in_err-user : goal.returns-in_err-user
returns-in_err-user g c =
    let failed : IfOk c.from_residual.result (λ going. ShowsStatus c.args.zone.now going []) = search rules in
    ([], names_none g.S.Turns.state g.S.Turns.to_come (g.S.Turns.names_seen c.args.names.now) c.count_names.ensures.legal, no_work g.S.Turns.state g.S.Turns.to_come, failed)

pub returns-in_err-path : goal.returns-in_err-path
returns-in_err-path g c =
    let failed : IfOk c.from_residual-in_err-path.result (λ going. ShowsStatus c.args.zone.now going []) = search rules in
    ([], names_none g.S.Turns.state g.S.Turns.to_come (g.S.Turns.names_seen c.args.names.now) c.count_names.ensures.legal, no_work g.S.Turns.state g.S.Turns.to_come, failed)

pub returns : goal.returns
returns g c =
    shows_status g.S.Turns.state g.S.Turns.to_come (g.S.Turns.names_seen c.args.names.now) (g.S.Turns.names_seen c.call_names-reply.new.pass) c.in_ok-user.user c.args.zone.now c.in_ok-path.path c.call_names-reply.result c.goes_on-going.result c.in_ok-user.ensures c.in_ok-path.ensures
    c.call_names-reply.ensures c.goes_on-going.ensures
