use Rattle.std.proofs.Common.{◌≡◌, ℕ, ◌+◌, ◌<◌, [], length, slice_index, slice_index_or}
use Rattle.aes_core.specs.Aes.{encrypted, with_last}
use Rattle.aes_core.proofs.rounds.eight_encrypted.Given as goal

abbrev pub invariant-loop-i : goal.invariant-loop-i
invariant-loop-i g l = record {
  long : length l.blocks ≡ 8;
  made : (k : ℕ) → k < l.i → slice_index_or l.blocks k [] ≡ encrypted l.words (g.row.NK + 6) (with_last l.block (slice_index l.block 15 + k));
}
