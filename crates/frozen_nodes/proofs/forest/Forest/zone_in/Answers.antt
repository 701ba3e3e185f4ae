use Rattle.std.proofs.Common.{◌≡◌, ◌≤◌, ◌∙◌, ℕ, Some, ap, cond, length, sym, arith}
use Rattle.inode_tree.specs.Rows.{is_marked}
use Rattle.frozen_nodes.specs.Forest.{node_at}
use Rattle.name_calls.proofs.PathLemmas.{relative-short}
use Rattle.frozen_nodes.proofs.Walks.{kid-within, zone-end, zone-none-further, zone-some-further, zone-start}
use Rattle.frozen_nodes.proofs.forest.Forest.zone_in.Goals as goal

pub loop-k-init : goal.loop-k-init
loop-k-init c = record { within = c.requires; same = zone-start c.args.self.now.nodes c.args.root c.args.path.now }

pub zone_at-next-requires : goal.zone_at-next-requires
zone_at-next-requires c = record {
  below = c.loop-k.invariant.within;
  depth = let s : length c.args.path.now ≤ 100 = relative-short c.args.path.now c.len-depth.ensures.rule in let e = c.len-depth.ensures.len in let h = c.loop-k-test.true in omega arith;
}

pub loop-k-preserved : goal.loop-k-preserved
loop-k-preserved c = record {
  within = kid-within c.args.self.now.nodes c.invariants.ensures c.loop-k.n c.loop-k.invariant.within c.args.path.now c.loop-k.k (let e = c.len-depth.ensures.len in let h = c.loop-k-test.true in omega arith) c.name.result.now c.name.ensures c.in-Some.kid c.in-Some.ensures;
  same = c.loop-k.invariant.same ∙ zone-some-further c.args.self.now.nodes c.invariants.ensures c.loop-k.n c.loop-k.invariant.within c.args.path.now c.loop-k.k (let e = c.len-depth.ensures.len in let h = c.loop-k-test.true in omega arith) c.name.result.now c.name.ensures c.loop-k.zone c.zone_at-next.result c.in-Some.kid c.zone_at-next.ensures c.in-Some.ensures;
}

pub returns-in-None : goal.returns-in-None
returns-in-None c =
    sym (c.loop-k.invariant.same ∙ zone-none-further c.args.self.now.nodes c.invariants.ensures c.loop-k.n c.loop-k.invariant.within c.args.path.now c.loop-k.k (let e = c.len-depth.ensures.len in let h = c.loop-k-test.true in omega arith) c.name.result.now c.name.ensures c.loop-k.zone c.zone_at-next.result c.zone_at-next.ensures c.in-None.ensures)

pub zone_at-requires : goal.zone_at-requires
zone_at-requires c = record {
  below = c.loop-k.invariant.within;
  depth = let s : length c.args.path.now ≤ 100 = relative-short c.args.path.now c.len-depth.ensures.rule in let e = c.len-depth.ensures.len in omega arith;
}

same-end : (a b k : ℕ) → a ≡ b → a ≤ k → k ≤ a → a ≡ k
same-end a b k e f g = omega arith

pub returns : goal.returns
returns c =
    c.zone_at.ensures
    ∙ ap (λ (n : ℕ). cond (is_marked (node_at c.args.self.now.nodes c.loop-k.n).row) (Some n) c.loop-k.zone) (same-end c.len-depth.result (length c.args.path.now) c.loop-k.k c.len-depth.ensures.len c.loop-k-test.false c.loop-k.auto.k-end)
    ∙ sym (c.loop-k.invariant.same ∙ zone-end c.args.self.now.nodes c.invariants.ensures c.loop-k.n c.loop-k.invariant.within c.args.path.now c.loop-k.k c.loop-k.zone (let e = c.len-depth.ensures.len in let h = c.loop-k-test.false in omega arith))
