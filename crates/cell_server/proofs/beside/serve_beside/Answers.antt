use Rattle.std.proofs.Common.{rules}
use Rattle.cell_server.specs.Connections.{ServesEnds}
use Rattle.cell_workers.specs.Work.{PoolWorks}
use Rattle.cell_server.proofs.GoingLemmas.{workers_end_after}
use Rattle.cell_server.proofs.beside.serve_beside.Goals as goal

pub returns-clause-connections : goal.returns-clause-connections
returns-clause-connections g c =
    let keys = g.S.Turns.keys_seen in
    let names = g.S.Turns.names_seen in
    let done = c.join-their_keys.result in
    let works : PoolWorks (g.V.Words.to_come c.args.first) (g.V.Words.to_come c.args.second) (keys c.split_keys-their_keys.result) (names c.split_names-their_names.result) (keys done.0) (names done.1) = search rules in
    workers_end_after (ServesEnds g.A.In.Source.left g.A.In.Source.faults g.A.Out.Sink.written g.A.Out.Sink.faults) (g.V.Words.to_come c.args.first) (g.V.Words.to_come c.args.second)
    (g.A.Door.state c.args.door.now) (keys c.args.keys.now) (keys c.split_keys-their_keys.new.pass) (names c.args.names.now) (names c.split_names-their_names.new.pass) (g.A.Door.state c.serve_connections-end.new.door)
    (keys c.serve_connections-end.new.keys) (keys c.split_keys-their_keys.result) (keys done.0) (keys c.meet.new.keys) (names c.serve_connections-end.new.names) (names c.split_names-their_names.result) (names done.1) (names c.meet.new.names)
    c.split_keys-their_keys.ensures.same c.split_names-their_names.ensures.same c.split_keys-their_keys.ensures.new c.split_names-their_names.ensures.new c.serve_connections-end.ensures.going works c.meet.ensures.keys c.meet.ensures.names
