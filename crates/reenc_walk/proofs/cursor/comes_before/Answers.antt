use Rattle.std.proofs.Common.{◌<◌, ◌≤◌, ℕ, ◌∙◌, length, ap, arith}
use Rattle.std.specs.Prelude.{nat_lt}
use Rattle.reenc_walk.proofs.Alike.{shorter-first}
use Rattle.reenc_walk.proofs.cursor.comes_before.Goals as goal
use Rattle.reenc_walk.proofs.cursor.comes_before.Goals.{then-loop-k-test+else-k-len, else-loop-k-test}

pub returns : goal.returns
returns c =
    let ended : c.loop-k.k < length c.args.path.now → length c.args.other.now ≤ c.loop-k.k = elim c.loop-k-test.branch [
      | then-loop-k-test+else-k-len w ↦ (λ b. omega (arith, w.if-k-len.false, w.len-in-loop-k.ensures.len))
      | else-loop-k-test w ↦ (λ b. omega (arith, w.loop-k-test.false, c.len.ensures.len))
    ] in
    ap (λ (n : ℕ). nat_lt n c.len-3.result) c.len-2.ensures.len
    ∙ ap (nat_lt (length c.args.path.now)) c.len-3.ensures.len
    ∙ shorter-first c.args.path.now c.args.other.now c.loop-k.k c.loop-k.invariant.1 c.loop-k.invariant.2 ended c.loop-k.invariant.0
