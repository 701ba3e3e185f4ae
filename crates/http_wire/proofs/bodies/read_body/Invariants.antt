use Rattle.std.proofs.Common.{◌≤◌, ◌-◌, length}
use Rattle.std.specs.Io.KnownBytes.{Consumes}
use Rattle.http_wire.specs.Reading.{ahead}
use Rattle.http_wire.proofs.bodies.read_body.Given as goal

abbrev pub invariant-bytes : goal.invariant-bytes
invariant-bytes g l = record {
  used : Consumes (ahead l.fn.buffer (g.S.Source.left l.fn.source)) (ahead l.buffer (g.S.Source.left l.source)) l.body;
  within : length l.body ≤ l.size;
  later : g.S.Source.faults l.fn.source ≤ g.S.Source.faults l.source;
}

abbrev pub decreases-bytes : goal.decreases-bytes
decreases-bytes g l = l.size - length l.body
