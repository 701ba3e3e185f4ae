use Rattle.std.proofs.Common.{ap, subst, ◌∙◌}
use Rattle.server_parts.specs.Doors.{DoorState}
use Rattle.cell_server.specs.Connections.{ServesEnds}
use Rattle.cell_server.specs.Serves.{ServesAll}
use Rattle.cell_server.proofs.ServeLemmas.{serves_after, serves_none}
use Rattle.cell_server.proofs.serve.serve_all.Goals as goal

pub returns-in-Ok-clause-serves : goal.returns-in-Ok-clause-serves
returns-in-Ok-clause-serves g c =
    let serves = ServesEnds g.A.In.Source.left g.A.In.Source.faults g.A.Out.Sink.written g.A.Out.Sink.faults in
    let door = g.A.Door.state c.serve_opened.new.door in
    let keys = g.S.Turns.keys_seen c.serve_opened.new.keys in
    let names = g.S.Turns.names_seen c.serve_opened.new.names in
    serves_after serves (g.V.Words.to_come c.args.first) (g.V.Words.to_come c.args.second) g.S.Turns.state g.S.Turns.to_come
    (g.A.Door.state c.args.door.now) (g.S.Turns.keys_seen c.args.keys.now) (g.S.Turns.names_seen c.args.names.now) c.args.port c.args.conns c.serve_opened.result door keys names
    (subst (λ (d : DoorState _ _). ServesAll serves (g.V.Words.to_come c.args.first) (g.V.Words.to_come c.args.second) g.S.Turns.state g.S.Turns.to_come d (g.S.Turns.keys_seen c.args.keys.now) (g.S.Turns.names_seen c.args.names.now) c.args.port c.args.conns c.serve_opened.result door keys names)
    c.in-Ok.ensures.opened (c.serve_opened.ensures.serves c.args.port (ap (λ (d : DoorState _ _). d.port) c.in-Ok.ensures.opened)))

pub returns-in-Err-clause-serves : goal.returns-in-Err-clause-serves
returns-in-Err-clause-serves g c =
    serves_none (ServesEnds g.A.In.Source.left g.A.In.Source.faults g.A.Out.Sink.written g.A.Out.Sink.faults) (g.V.Words.to_come c.args.first) (g.V.Words.to_come c.args.second) g.S.Turns.state g.S.Turns.to_come
    (g.A.Door.state c.args.door.now) (g.S.Turns.keys_seen c.args.keys.now) (g.S.Turns.names_seen c.args.names.now) c.args.port c.args.conns (g.A.Door.state c.open.new.self) c.in-Err.ensures.same c.count_keys.ensures.legal c.count_names.ensures.legal
