use Rattle.cell_server.specs.Connections.{ServesEnds}
use Rattle.cell_server.proofs.EndLemmas.{ends_unbegun}
use Rattle.cell_server.proofs.GoingLemmas.{connections_none}
use Rattle.cell_server.proofs.beside.serve_with_workers.Goals as goal

pub returns-in_default-clause-connections : goal.returns-in_default-clause-connections
returns-in_default-clause-connections g c =
    connections_none (ServesEnds g.A.In.Source.left g.A.In.Source.faults g.A.Out.Sink.written g.A.Out.Sink.faults) (g.V.Words.to_come c.args.first) (g.V.Words.to_come c.args.second) (g.A.Door.state c.args.door.now) (g.S.Turns.keys_seen c.args.keys.now) (g.S.Turns.names_seen c.args.names.now)

pub returns-in_default-clause-ends : goal.returns-in_default-clause-ends
returns-in_default-clause-ends g c = ends_unbegun (g.A.Door.state c.args.door.now) (g.A.Door.faults c.args.door.now) c.args.conns
