use Rattle.std.proofs.Common.{◌∙◌, ℕ, ap}
use Rattle.std.specs.Prelude.{nat_lt}
use Rattle.reenc_walk.specs.Retiring.{batch_at}
use Rattle.reenc_walk.proofs.Retires.{has-at}
use Rattle.reenc_walk.proofs.batches.has.Goals as goal

pub returns : goal.returns
returns c =
    ap (λ (n : ℕ). nat_lt n c.len.result) c.find.ensures
    ∙ ap (nat_lt (batch_at c.args.sent.now c.args.batches.now.items)) (c.len.ensures ∙ c.args.batches.now.ok.0)
    ∙ has-at c.args.sent.now c.args.batches.now.items
