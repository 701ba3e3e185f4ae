use Rattle.std.proofs.Common.{◌≡◌, ◌+◌, ◌*◌, length}
use Rattle.aes_core.specs.AnyAes.{key_of}
use Rattle.aes_ctr.specs.Progress.{Advances}
use Rattle.aes_ctr.proofs.pieces.xor_blocks.Given as goal

abbrev pub invariant-loop-i : goal.invariant-loop-i
invariant-loop-i l = record {
  same_length : length l.bytes ≡ length l.fn.bytes;
  done : Advances (key_of l.key) l.counter l.offset l.fn.bytes l.bytes l.from (l.from + 16 * l.i);
}
