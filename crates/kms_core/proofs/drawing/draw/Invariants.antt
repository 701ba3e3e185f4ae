use Rattle.std.proofs.Common.{◌≡◌, ◌+◌, ◌*◌, ℕ, take}
use Rattle.kms_core.specs.Draws.{drawn}
use Rattle.kms_core.proofs.drawing.draw.Given as goal

abbrev pub invariant-loop-i : goal.invariant-loop-i
invariant-loop-i g l = record {
  front : take (4 * l.i) l.bytes ≡ drawn (g.W.Words.to_come l.fn.words) 0 l.i;
  rest : (k : ℕ) → g.W.Words.to_come l.words k ≡ g.W.Words.to_come l.fn.words (l.i + k);
}
