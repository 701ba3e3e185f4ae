use Rattle.std.proofs.Common.{◌≡◌, ◌+◌, ◌*◌, refl, arith, ◌∙◌}
use Rattle.aes_ctr.proofs.pieces.xor_blocks.Goals as goal

pub loop-i-init : goal.loop-i-init
loop-i-init c =
    let none_more : c.args.from + 16 * 0 ≡ c.args.from = omega arith in
    record { same_length = refl; done = λ old up_to. rw none_more up_to }

pub loop-i-preserved : goal.loop-i-preserved
loop-i-preserved c =
    let next : c.args.from + 16 * (c.loop-i.i + 1) ≡ c.args.from + 16 * c.loop-i.i + 16 = omega arith in
    record {
      same_length = c.xor_block.ensures.length ∙ c.loop-i.invariant.same_length;
      done = λ old up_to. rw next (c.xor_block.ensures.done old (c.loop-i.invariant.done old up_to));
    }
