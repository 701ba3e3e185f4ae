use Rattle.std.proofs.Common.{ap, sym, subst, ◌∙◌}
use Rattle.hist_cell.specs.History.{Splits}
use Rattle.server_parts.specs.Doors.{with_accepted}
use Rattle.cell_server.specs.Connections.{Going, ServesEnds, Start}
use Rattle.cell_server.proofs.GoingLemmas.{going_accepts}
use Rattle.cell_server.proofs.acceptor.begin_one.Goals as goal

pub returns-clause-goes_on : goal.returns-clause-goes_on
returns-clause-goes_on g c door door0 keys0 names0 going =
    let serves = ServesEnds g.A.In.Source.left g.A.In.Source.faults g.A.Out.Sink.written g.A.Out.Sink.faults in
    let after = with_accepted door (c.args.accepted.input, c.args.accepted.out) in
    subst (λ q. Going serves door0 keys0 names0 after (g.S.Turns.keys_seen c.split_keys-their_keys.new.pass) (g.S.Turns.names_seen c.split_names-their_names.new.pass) q)
    (sym c.push_back_reserved.ensures.items)
    (going_accepts serves door (g.S.Turns.keys_seen c.args.keys.now) (g.S.Turns.names_seen c.args.names.now) c.args.queue.now.items
    after (g.S.Turns.keys_seen c.split_keys-their_keys.new.pass) (g.S.Turns.names_seen c.split_names-their_names.new.pass) c.begin-begun.result
    (ap (λ (s : Start _ _ _ _). with_accepted door (s.input, s.out)) (sym c.begin-begun.ensures))
    c.split_keys-their_keys.ensures.same c.split_names-their_names.ensures.same
    (subst (λ (s : Start _ _ _ _). Splits (g.S.Turns.keys_seen c.args.keys.now) s.keys) (sym c.begin-begun.ensures) c.split_keys-their_keys.ensures.new)
    (subst (λ (s : Start _ _ _ _). Splits (g.S.Turns.names_seen c.args.names.now) s.names) (sym c.begin-begun.ensures) c.split_names-their_names.ensures.new)
    door0 keys0 names0 going)
