use Rattle.cell_server.specs.Connections.{ServesEnds}
use Rattle.cell_server.proofs.GoingLemmas.{going_finishes}
use Rattle.cell_server.proofs.acceptor.finish.Goals as goal

pub returns-clause-goes_on : goal.returns-clause-goes_on
returns-clause-goes_on g c more =
    let done = c.join-done.result in
    going_finishes (ServesEnds g.A.In.Source.left g.A.In.Source.faults g.A.Out.Sink.written g.A.Out.Sink.faults)
    (g.A.Door.state c.args.door.now) (g.S.Turns.keys_seen c.args.keys.now) (g.S.Turns.names_seen c.args.names.now) c.args.oldest more (g.A.Door.state c.leave.new.self) (g.S.Turns.keys_seen c.meet.new.keys) (g.S.Turns.names_seen c.meet.new.names)
    done.input done.out (g.S.Turns.keys_seen done.keys) (g.S.Turns.names_seen done.names) done.ended c.join-done.ensures c.leave.ensures.gone c.meet.ensures.keys c.meet.ensures.names
