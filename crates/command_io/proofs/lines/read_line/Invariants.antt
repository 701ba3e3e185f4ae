use Rattle.std.proofs.Common.{◌≡◌, ◌+◌, ◌-◌, ◌<◌, ◌≤◌, ◌^◌, length, IsTrue}
use Rattle.std.specs.Io.KnownBytes.{Consumes}
use Rattle.hk_base.specs.Reading.{ahead}
use Rattle.command_io.specs.Lines.{is_line}
use Rattle.command_io.proofs.lines.read_line.Given as goal

abbrev pub invariant-bytes : goal.invariant-bytes
invariant-bytes g l = record {
  consumed : Consumes (ahead l.fn.reader (g.S.Source.left l.fn.source)) (ahead l.reader (g.S.Source.left l.source)) l.line;
  used : l.reader.used ≡ l.fn.reader.used + length l.line;
  bounded : 0 < length l.line → l.reader.used ≤ 2 ^ 40;
  whole : IsTrue (is_line l.line);
  short : length l.line ≤ 1048577;
  later : g.S.Source.faults l.fn.source ≤ g.S.Source.faults l.source;
}

abbrev pub decreases-bytes : goal.decreases-bytes
decreases-bytes g l = 1048577 - length l.line
