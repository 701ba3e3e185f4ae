use Rattle.std.proofs.Common.{◌≡◌, ◌-◌, ◌<◌, ℕ, drop, sym, subst, arith}
use Rattle.reenc_walk.specs.Retiring.{batch_at, run_length}
use Rattle.reenc_walk.proofs.Retires.{mark-moves, mark-within}
use Rattle.reenc_walk.proofs.batches.mark_after.Goals as goal

pub index-requires : goal.index-requires
index-requires c = subst (λ (n : ℕ). c.second-at.result - 1 < n) (sym c.args.batches.now.ok.0) (mark-within c.args.sent.now c.args.batches.now.items c.second-at.result c.requires.has c.second-at.ensures)

pub returns : goal.returns
returns c =
    let first : batch_at c.args.sent.now c.args.batches.now.items ≡ 0 = omega (arith, c.find.ensures, c.if-find-gt0.false) in
    let place : c.second-at.result - 1 ≡ run_length (drop 1 c.args.batches.now.items) = omega (arith, c.second-at.ensures) in
    mark-moves c.args.sent.now c.args.batches.now.items (c.second-at.result - 1) c.index.result.now c.in_ok-copy.field-0 c.requires.has first place c.index.ensures c.in_ok-copy.ensures
