use Rattle.std.proofs.Common.{◌-◌, ◌≤◌, ◌<◌, ◌^◌}
use Rattle.http_wire.specs.Reading.{ahead}
use Rattle.hk_serve.proofs.ConnectionLemmas.{SoFar}
use Rattle.hk_serve.proofs.connection.Connection.run.Given as goal

abbrev pub invariant-requests : goal.invariant-requests
invariant-requests g l = record {
  so_far : SoFar g.E.Desk.answers
      (record { ahead = ahead l.fn.self.buffer (g.S.Source.left l.fn.source); desk = l.fn.desk; written = g.K.Sink.written l.fn.sink })
      (record { ahead = ahead l.self.buffer (g.S.Source.left l.source); desk = l.desk; written = g.K.Sink.written l.sink })
      l.self.bytes;
  ready : g.E.Desk.ready l.desk;
  few : l.self.bytes < 2 ^ 40;
  read_later : g.S.Source.faults l.fn.source ≤ g.S.Source.faults l.source;
  write_later : g.K.Sink.faults l.fn.sink ≤ g.K.Sink.faults l.sink;
}

abbrev pub decreases-requests : goal.decreases-requests
decreases-requests g l = 2 ^ 40 - l.self.bytes
