use Rattle.std.proofs.Common.{◌<◌, ◌++◌, ◌∷◌, ◌∙◌, ℕ, [], List, get_or, subst, sym, arith}
use Rattle.std.proofs.lemmas.List.{map_more}
use Rattle.frozen_nodes.specs.Forest.{AreBelow, HaveNames, child_at}
use Rattle.frozen_nodes.proofs.Walks.{below-at, ruled-at}
use Rattle.frozen_nodes.proofs.forest.Forest.children.Goals as goal

pub child-requires : goal.child-requires
child-requires c = record {
  below =
      let b : get_or c.kids-kids.result.now c.loop-kid.kid-index 0 < c.args.n =
      below-at c.args.n c.kids-kids.result.now c.loop-kid.kid-index 0 (subst (λ (ks : List ℕ). AreBelow c.args.n ks) (sym c.kids-kids.ensures.kids) (c.invariants.ensures c.args.n).below) c.loop-kid-test.true in
      let r = c.requires in omega arith;
  rule = ruled-at c.args.self.now.nodes c.kids-kids.result.now c.loop-kid.kid-index 0 (subst (λ (ks : List ℕ). HaveNames c.args.self.now.nodes ks) (sym c.kids-kids.ensures.kids) (c.invariants.ensures c.args.n).ruled) c.loop-kid-test.true;
}

pub loop-kid-preserved : goal.loop-kid-preserved
loop-kid-preserved c =
    c.in_ok-push.ensures.ok
    ∙ (λ i. c.loop-kid.invariant i ++ c.in_ok-child.ensures i ∷ [])
    ∙ sym (map_more (child_at c.args.self.now.nodes) c.kids-kids.result.now c.loop-kid.kid-index 0 c.loop-kid-test.true)
