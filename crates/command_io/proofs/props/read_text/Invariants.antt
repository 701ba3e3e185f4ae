use Rattle.std.proofs.Common.{◌≡◌, ◌-◌, ◌≤◌, length}
use Rattle.std.specs.Io.KnownBytes.{Consumes}
use Rattle.hk_base.specs.Reading.{ahead}
use Rattle.command_io.proofs.props.read_text.Given as goal

abbrev pub invariant-bytes : goal.invariant-bytes
invariant-bytes g l = record {
  consumed : Consumes (g.A.Source.left l.fn.source) (ahead l.reader (g.A.Source.left l.source)) l.text;
  used : l.reader.used ≡ length l.text;
  short : length l.text ≤ 1048577;
  later : g.A.Source.faults l.fn.source ≤ g.A.Source.faults l.source;
}

abbrev pub decreases-bytes : goal.decreases-bytes
decreases-bytes g l = 1048577 - length l.text
