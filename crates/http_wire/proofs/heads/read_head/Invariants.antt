use Rattle.std.proofs.Common.{◌≤◌, ◌-◌, length}
use Rattle.std.specs.Io.KnownBytes.{Consumes}
use Rattle.http_wire.specs.Reading.{ahead}
use Rattle.http_wire.specs.Heads.{HasNoEnd}
use Rattle.http_wire.proofs.heads.read_head.Given as goal

abbrev pub invariant-bytes : goal.invariant-bytes
invariant-bytes g l = record {
  used : Consumes (ahead l.fn.buffer (g.S.Source.left l.fn.source)) (ahead l.buffer (g.S.Source.left l.source)) l.head;
  no_end : HasNoEnd l.head;
  few : length l.head ≤ 16384;
  later : g.S.Source.faults l.fn.source ≤ g.S.Source.faults l.source;
}

abbrev pub decreases-bytes : goal.decreases-bytes
decreases-bytes g l = 16384 - length l.head
