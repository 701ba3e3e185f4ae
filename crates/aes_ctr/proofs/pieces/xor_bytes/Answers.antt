use Rattle.std.proofs.Common.{◌≡◌, ◌+◌, ◌-◌, ◌/◌, ◌%◌, refl, arith}
use Rattle.std.proofs.Math.ListN.{length-set}
use Rattle.aes_ctr.specs.Ctr.{stream_byte}
use Rattle.aes_ctr.proofs.Blocks.{byte_done}
use Rattle.aes_ctr.proofs.pieces.xor_bytes.Goals as goal

pub loop-i-init : goal.loop-i-init
loop-i-init c = record { same_length = refl; done = λ old up_to. up_to }

pub loop-i-preserved : goal.loop-i-preserved
unfolding stream_byte
loop-i-preserved c =
    let same_block : (c.args.offset + c.loop-i.i) / 16 ≡ (c.args.offset + c.args.from) / 16 = omega (arith, c.requires.one_block) in
    let same_place : (c.args.offset + c.loop-i.i) % 16 ≡ (c.args.offset + c.args.from) % 16 + (c.loop-i.i - c.args.from) = omega (arith, c.requires.one_block) in
    record {
      same_length = simp length-set c.loop-i.invariant.same_length;
      done = λ old up_to.
          byte_done _ _ c.args.offset old c.loop-i.bytes c.loop-i.i _ (omega arith) (rw (same_block, same_place, c.stream_block-block.ensures) refl) (c.loop-i.invariant.done old up_to);
    }
