use Rattle.std.proofs.Common.{length}
use Rattle.prop_text.proofs.LoopLemmas.{SoFar}
use Rattle.prop_text.proofs.props.read_lines.Given as goal

abbrev pub invariant-lines : goal.invariant-lines
invariant-lines l = record {
  so_far : SoFar l.fn.text l.rest l.reading l.number;
}

abbrev pub decreases-lines : goal.decreases-lines
decreases-lines l = length l.rest
