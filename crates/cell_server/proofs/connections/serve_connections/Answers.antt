use Rattle.std.proofs.Common.{sym, subst}
use Rattle.cell_server.specs.Connections.{Going, ServesEnds}
use Rattle.cell_server.proofs.EndLemmas.{ends_left, ends_unbegun}
use Rattle.cell_server.proofs.GoingLemmas.{going_begins}
use Rattle.cell_server.proofs.connections.serve_connections.Goals as goal

pub returns-in_default-clause-going : goal.returns-in_default-clause-going
returns-in_default-clause-going g c =
    going_begins (ServesEnds g.A.In.Source.left g.A.In.Source.faults g.A.Out.Sink.written g.A.Out.Sink.faults) (g.A.Door.state c.args.door.now) (g.S.Turns.keys_seen c.args.keys.now) (g.S.Turns.names_seen c.args.names.now)

pub returns-in_default-clause-ends : goal.returns-in_default-clause-ends
returns-in_default-clause-ends g c = ends_unbegun (g.A.Door.state c.args.door.now) (g.A.Door.faults c.args.door.now) c.args.conns

pub returns-clause-going : goal.returns-clause-going
returns-clause-going g c =
    let serves = ServesEnds g.A.In.Source.left g.A.In.Source.faults g.A.Out.Sink.written g.A.Out.Sink.faults in
    let door = g.A.Door.state c.args.door.now in
    c.drain.ensures.goes_on _ _ _ (c.accept_all-end.ensures.goes_on _ _ _
    (subst (λ q. Going serves door (g.S.Turns.keys_seen c.args.keys.now) (g.S.Turns.names_seen c.args.names.now) door (g.S.Turns.keys_seen c.args.keys.now) (g.S.Turns.names_seen c.args.names.now) q)
    (sym c.in-Ok.ensures.items) (going_begins serves door (g.S.Turns.keys_seen c.args.keys.now) (g.S.Turns.names_seen c.args.names.now))))

pub returns-clause-ends : goal.returns-clause-ends
returns-clause-ends g c =
    ends_left (g.A.Door.state c.args.door.now) (g.A.Door.faults c.args.door.now) c.args.conns c.accept_all-end.result
    (g.A.Door.state c.accept_all-end.new.door) (g.A.Door.state c.drain.new.door) (g.A.Door.faults c.accept_all-end.new.door) (g.A.Door.faults c.drain.new.door)
    (returns-clause-going g c).port c.accept_all-end.ensures.accepted c.accept_all-end.ensures.closed c.accept_all-end.ensures.cause
    c.drain.ensures.accepted c.drain.ensures.closed c.drain.ensures.faults
