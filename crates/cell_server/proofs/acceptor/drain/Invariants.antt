use Rattle.std.proofs.Common.{◌≡◌}
use Rattle.std.specs.VecDeque.{deque_len}
use Rattle.cell_server.specs.Connections.{ConnectionsGoOn, HasOut, ServesEnds}
use Rattle.cell_server.proofs.acceptor.drain.Given as goal

abbrev pub invariant-loop-oldest : goal.invariant-loop-oldest
invariant-loop-oldest g l =
    ConnectionsGoOn (ServesEnds g.A.In.Source.left g.A.In.Source.faults g.A.Out.Sink.written g.A.Out.Sink.faults)
    (g.A.Door.state l.initial.door) (g.S.Turns.keys_seen l.initial.keys) (g.S.Turns.names_seen l.initial.names) l.initial.queue.items (g.A.Door.state l.door) (g.S.Turns.keys_seen l.keys) (g.S.Turns.names_seen l.names) l.queue.items
    × HasOut (g.A.Door.state l.door) (deque_len l.queue)
    × ((g.A.Door.state l.door).accepted ≡ (g.A.Door.state l.initial.door).accepted) × ((g.A.Door.state l.door).closed ≡ (g.A.Door.state l.initial.door).closed) × (g.A.Door.faults l.door ≡ g.A.Door.faults l.initial.door)

abbrev pub decreases-loop-oldest : goal.decreases-loop-oldest
decreases-loop-oldest g l = deque_len l.queue
