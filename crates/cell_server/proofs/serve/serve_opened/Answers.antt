use Rattle.std.proofs.Common.{inl, refl, ◌∙◌}
use Rattle.cell_server.specs.Connections.{ServesEnds}
use Rattle.cell_server.specs.declared.ends.ServeEnd.TheVariants as serve_end
use Rattle.cell_server.proofs.ServeLemmas.{serves_no_round, serves_part, serves_whole}
use Rattle.cell_server.proofs.serve.serve_opened.Goals as goal

pub returns-in-Ok-clause-serves : goal.returns-in-Ok-clause-serves
returns-in-Ok-clause-serves g c port is =
    let round = c.in-Ok.ensures in
    serves_whole (ServesEnds g.A.In.Source.left g.A.In.Source.faults g.A.Out.Sink.written g.A.Out.Sink.faults) (g.V.Words.to_come c.args.first) (g.V.Words.to_come c.args.second) g.S.Turns.state g.S.Turns.to_come
    (g.A.Door.state c.args.door.now) (g.S.Turns.keys_seen c.args.keys.now) (g.S.Turns.names_seen c.args.names.now) port c.args.conns serve_end.Served (g.A.Door.state c.serve_with_workers-end.new.door)
    (g.S.Turns.keys_seen c.serve_with_workers-end.new.keys) (g.S.Turns.names_seen c.serve_with_workers-end.new.names) (g.S.Turns.names_seen c.last_round.new.names) round.0
    (inl (c.serve_with_workers-end.ensures.ends.port ∙ is)) c.serve_with_workers-end.ensures.connections (c.serve_with_workers-end.ensures.ends.accepted c.in-Served.is) c.count_keys.ensures.legal round.1 round.2 refl

pub returns-in-Err-clause-serves : goal.returns-in-Err-clause-serves
returns-in-Err-clause-serves g c port is =
    let round = c.last_round.ensures in
    serves_part (ServesEnds g.A.In.Source.left g.A.In.Source.faults g.A.Out.Sink.written g.A.Out.Sink.faults) (g.V.Words.to_come c.args.first) (g.V.Words.to_come c.args.second) g.S.Turns.state g.S.Turns.to_come
    (g.A.Door.state c.args.door.now) (g.S.Turns.keys_seen c.args.keys.now) (g.S.Turns.names_seen c.args.names.now) port c.args.conns serve_end.NoMemory (g.A.Door.state c.serve_with_workers-end.new.door)
    (g.S.Turns.keys_seen c.serve_with_workers-end.new.keys) (g.S.Turns.names_seen c.serve_with_workers-end.new.names) (g.S.Turns.names_seen c.last_round.new.names) round.0
    (inl (c.serve_with_workers-end.ensures.ends.port ∙ is)) c.serve_with_workers-end.ensures.connections c.count_keys.ensures.legal round.1 refl

pub returns-in-Closed-clause-serves : goal.returns-in-Closed-clause-serves
returns-in-Closed-clause-serves g c port is =
    serves_no_round (ServesEnds g.A.In.Source.left g.A.In.Source.faults g.A.Out.Sink.written g.A.Out.Sink.faults) (g.V.Words.to_come c.args.first) (g.V.Words.to_come c.args.second) g.S.Turns.state g.S.Turns.to_come
    (g.A.Door.state c.args.door.now) (g.S.Turns.keys_seen c.args.keys.now) (g.S.Turns.names_seen c.args.names.now) port c.args.conns serve_end.Closed (g.A.Door.state c.serve_with_workers-end.new.door)
    (g.S.Turns.keys_seen c.serve_with_workers-end.new.keys) (g.S.Turns.names_seen c.serve_with_workers-end.new.names) (inl (c.serve_with_workers-end.ensures.ends.port ∙ is)) c.serve_with_workers-end.ensures.connections c.count_keys.ensures.legal c.count_names.ensures.legal (λ e. cc) (λ e. c.serve_with_workers-end.ensures.ends.closed c.in-Closed.is)

pub returns-in-DoorFault-clause-serves : goal.returns-in-DoorFault-clause-serves
returns-in-DoorFault-clause-serves g c port is =
    serves_no_round (ServesEnds g.A.In.Source.left g.A.In.Source.faults g.A.Out.Sink.written g.A.Out.Sink.faults) (g.V.Words.to_come c.args.first) (g.V.Words.to_come c.args.second) g.S.Turns.state g.S.Turns.to_come
    (g.A.Door.state c.args.door.now) (g.S.Turns.keys_seen c.args.keys.now) (g.S.Turns.names_seen c.args.names.now) port c.args.conns serve_end.DoorFault (g.A.Door.state c.serve_with_workers-end.new.door)
    (g.S.Turns.keys_seen c.serve_with_workers-end.new.keys) (g.S.Turns.names_seen c.serve_with_workers-end.new.names) (inl (c.serve_with_workers-end.ensures.ends.port ∙ is)) c.serve_with_workers-end.ensures.connections c.count_keys.ensures.legal c.count_names.ensures.legal (λ e. cc) (λ e. absurd cc)

pub returns-in-NoMemory-clause-serves : goal.returns-in-NoMemory-clause-serves
returns-in-NoMemory-clause-serves g c port is =
    serves_no_round (ServesEnds g.A.In.Source.left g.A.In.Source.faults g.A.Out.Sink.written g.A.Out.Sink.faults) (g.V.Words.to_come c.args.first) (g.V.Words.to_come c.args.second) g.S.Turns.state g.S.Turns.to_come
    (g.A.Door.state c.args.door.now) (g.S.Turns.keys_seen c.args.keys.now) (g.S.Turns.names_seen c.args.names.now) port c.args.conns serve_end.NoMemory (g.A.Door.state c.serve_with_workers-end.new.door)
    (g.S.Turns.keys_seen c.serve_with_workers-end.new.keys) (g.S.Turns.names_seen c.serve_with_workers-end.new.names) (inl (c.serve_with_workers-end.ensures.ends.port ∙ is)) c.serve_with_workers-end.ensures.connections c.count_keys.ensures.legal c.count_names.ensures.legal (λ e. cc) (λ e. absurd cc)

pub returns-in-DoorFault-clause-cause : goal.returns-in-DoorFault-clause-cause
returns-in-DoorFault-clause-cause g c is = c.serve_with_workers-end.ensures.ends.fault c.in-DoorFault.is
