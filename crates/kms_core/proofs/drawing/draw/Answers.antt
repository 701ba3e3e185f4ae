use Rattle.std.proofs.Common.{ℕ, ◌+◌, ◌∙◌, ap, arith}
use Rattle.std.specs.Int.{w32, to_le_bytes}
use Rattle.kms_core.proofs.DrawLemmas.{one_more}
use Rattle.kms_core.proofs.drawing.draw.Goals as goal

pub loop-i-preserved : goal.loop-i-preserved
loop-i-preserved g c =
    let at : ℕ → ℕ = g.W.Words.to_come c.args.words.now in
    record {
      front = one_more at c.loop-i.i _ c.loop-i.bytes c.copy_from_slice.new.self c.loop-i.invariant.front
          (c.copy_from_slice.ensures.after ∙ c.to_le_bytes-word.ensures ∙ ap (to_le_bytes w32) (c.word.ensures.word ∙ c.loop-i.invariant.rest 0 ∙ ap at (omega arith)));
      rest = λ k. c.word.ensures.rest k ∙ c.loop-i.invariant.rest (k + 1) ∙ ap at (omega arith);
    }
