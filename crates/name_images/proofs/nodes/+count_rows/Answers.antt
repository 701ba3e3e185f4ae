use Rattle.std.proofs.Common.{◌≡◌, ◌∙◌, ◌+◌, ◌^◌, ◌<◌, ℕ, List, ap, arith, get_or, length, refl, subst, take_all}
use Rattle.std.specs.Prelude.{◌%◌}
use Rattle.frozen_nodes.specs.Forest.{kid_rows, node_at, subtree_at, subtrees}
use Rattle.name_images.proofs.Counts.{count-more, count-whole, kid-below}
use Rattle.name_images.proofs.nodes.+count_rows.Goals as goal

pub count_rows-more-requires : goal.count_rows-more-requires
count_rows-more-requires t c =
    let below : get_or c.kids-kids.result.now c.loop-kid.kid-index 0 < c.args.n = kid-below c.args.forest.now.nodes c.args.n c.kids-kids.result.now c.loop-kid.kid-index c.invariants.ensures c.kids-kids.ensures.kids c.loop-kid-test.true in
    (omega (arith, below), omega (arith, below, c.requires))

pub loop-kid-preserved : goal.loop-kid-preserved
loop-kid-preserved t c =
    let within : c.loop-kid.kid-index < length (node_at c.args.forest.now.nodes c.args.n).kids = subst (λ (ks : List ℕ). c.loop-kid.kid-index < length ks) c.kids-kids.ensures.kids c.loop-kid-test.true in
    count-more c.args.forest.now.nodes c.args.n c.loop-kid.count c.count_rows-more.result (get_or c.kids-kids.result.now c.loop-kid.kid-index 0) c.kids-kids.result.now c.loop-kid.kid-index within c.kids-kids.ensures.kids refl c.loop-kid.invariant c.count_rows-more.ensures

pub returns : goal.returns
returns t c =
    let ns = c.args.forest.now.nodes in
    let kids = (node_at ns c.args.n).kids in
    let same : length c.kids-kids.result.now ≡ length kids = ap length c.kids-kids.ensures.kids in
    c.loop-kid.invariant
    ∙ ap (λ (ks : List ℕ). (1 + length (kid_rows (subtree_at (subtrees ns)) ks)) % 2 ^ 32) (take_all c.loop-kid.kid-index kids (let le = c.loop-kid-test.false in omega (arith, le, same)))
    ∙ ap (λ (n : ℕ). n % 2 ^ 32) (count-whole ns c.args.n c.invariants.ensures c.requires)
