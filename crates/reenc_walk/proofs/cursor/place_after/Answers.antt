use Rattle.std.proofs.Common.{◌<◌, ◌≤◌, ◌+◌, ◌-◌, ◌/◌, ◌∙◌, ℕ, Some, sym, arith}
use Rattle.reenc_walk.proofs.Starts.{get-some, search-all, search-high, search-low}
use Rattle.reenc_walk.proofs.cursor.place_after.Goals as goal

pub loop-low-init : goal.loop-low-init
loop-low-init c = search-all c.args.tree.now.rows c.args.dir.now (Some c.args.cursor.now) c.place-low.result c.rows-high.result c.place-low.ensures c.rows-high.ensures.count

middle : (low high : ℕ) → low < high → (low ≤ low + (high - low) / 2) × (low + (high - low) / 2 < high)
middle low high h = (omega arith, omega arith)

pub loop-low-preserved-then-branch : goal.loop-low-preserved-then-branch
loop-low-preserved-then-branch c =
    let m = middle c.loop-low.low c.loop-low.high c.loop-low-test.true in
    let upto = c.loop-low.invariant.upto in
    let e = get-some c.args.tree.now.rows (c.loop-low.low + (c.loop-low.high - c.loop-low.low) / 2) (omega (arith, m.1)) in
    search-low c.args.tree.now.rows c.args.dir.now (Some c.args.cursor.now) c.loop-low.low c.loop-low.high (c.loop-low.low + (c.loop-low.high - c.loop-low.low) / 2) e.0 c.rows-high.ensures.rules.rising c.loop-low.invariant m.0 m.1 e.1
    (sym (c.in_ok-is_past.ensures e.0 e.1) ∙ c.if-branch.true)

pub loop-low-preserved : goal.loop-low-preserved
loop-low-preserved c =
    let m = middle c.loop-low.low c.loop-low.high c.loop-low-test.true in
    let upto = c.loop-low.invariant.upto in
    let e = get-some c.args.tree.now.rows (c.loop-low.low + (c.loop-low.high - c.loop-low.low) / 2) (omega (arith, m.1)) in
    search-high c.args.tree.now.rows c.args.dir.now (Some c.args.cursor.now) c.loop-low.low c.loop-low.high (c.loop-low.low + (c.loop-low.high - c.loop-low.low) / 2) e.0 c.rows-high.ensures.rules.rising c.loop-low.invariant m.0 m.1 e.1
    (sym (c.in_ok-is_past.ensures e.0 e.1) ∙ c.if-branch.false)
