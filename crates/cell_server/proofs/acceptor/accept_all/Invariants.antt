use Rattle.std.proofs.Common.{◌≡◌, ◌+◌, ◌≤◌}
use Rattle.std.specs.VecDeque.{deque_capacity, deque_len}
use Rattle.cell_server.specs.Connections.{ConnectionsGoOn, HasOut, ServesEnds}
use Rattle.cell_server.proofs.acceptor.accept_all.Given as goal

abbrev pub invariant-loop : goal.invariant-loop
invariant-loop g l =
    ConnectionsGoOn (ServesEnds g.A.In.Source.left g.A.In.Source.faults g.A.Out.Sink.written g.A.Out.Sink.faults)
    (g.A.Door.state l.initial.door) (g.S.Turns.keys_seen l.initial.keys) (g.S.Turns.names_seen l.initial.names) l.initial.queue.items (g.A.Door.state l.door) (g.S.Turns.keys_seen l.keys) (g.S.Turns.names_seen l.names) l.queue.items
    × (deque_capacity l.queue ≡ deque_capacity l.initial.queue)
    × HasOut (g.A.Door.state l.door) (deque_len l.queue)
    × ((g.A.Door.state l.door).accepted ≡ (g.A.Door.state l.initial.door).accepted + l.counter)
    × (g.A.Door.faults l.initial.door ≤ g.A.Door.faults l.door)
