use Rattle.std.proofs.Common.{◌≡◌, ◌∙◌, ◌+◌, ◌++◌, ◌∷◌, [], ℕ, List, ap, sym, subst, arith, get_or, length, take, take_all}
use Rattle.std.proofs.lemmas.List.{take_more}
use Rattle.frozen_nodes.specs.Moves.{AllMoved, AllReached}
use Rattle.frozen_nodes.proofs.Moving.{all-kept, all-more, reached-more}
use Rattle.frozen_nodes.proofs.Walks.{below-at}
use Rattle.frozen_nodes.proofs.forest.Forest.move_roots.Goals as goal

pub loop-root-init : goal.loop-root-init
loop-root-init c = record {
  moved = subst (λ (ms : List ℕ). AllMoved c.args.self.now.nodes c.args.to.now.nodes (take 0 c.args.roots.now) ms) (sym c.new-moved.ensures.items) tt;
  reached = λ n le lt. let none : length c.args.to.now.nodes ≡ 0 = ap length c.requires.empty in absurd (omega (arith, none, lt));
  count = c.in_ok-numbers.ensures.count ∙ c.len.ensures.len;
  numbered = λ k m h. absurd (c.in_ok-numbers.ensures.none k m h);
}

pub move_node-requires-clause-node : goal.move_node-requires-clause-node
move_node-requires-clause-node c = below-at (length c.args.self.now.nodes) c.args.roots.now c.loop-root.root-index 0 c.requires.within c.loop-root-test.true

pub loop-root-preserved : goal.loop-root-preserved
loop-root-preserved c =
    let more : take (c.loop-root.root-index + 1) c.args.roots.now ≡ take c.loop-root.root-index c.args.roots.now ++ get_or c.args.roots.now c.loop-root.root-index 0 ∷ [] = take_more c.args.roots.now c.loop-root.root-index 0 c.loop-root-test.true in
    record {
      moved = subst (λ (ks : List ℕ). AllMoved c.args.self.now.nodes c.move_node.new.to.nodes ks c.push.new.self.items) (sym more)
          (subst (λ (js : List ℕ). AllMoved c.args.self.now.nodes c.move_node.new.to.nodes (take c.loop-root.root-index c.args.roots.now ++ get_or c.args.roots.now c.loop-root.root-index 0 ∷ []) js) (sym c.in_ok-push.ensures.items)
          (all-more c.args.self.now.nodes c.move_node.new.to.nodes (take c.loop-root.root-index c.args.roots.now) c.loop-root.moved.items (get_or c.args.roots.now c.loop-root.root-index 0) c.in_ok-copy.copy
          (all-kept c.args.self.now.nodes c.loop-root.to.nodes c.move_node.new.to.nodes (take c.loop-root.root-index c.args.roots.now) c.loop-root.moved.items c.in_ok-copy.ensures.moves.kept c.loop-root.invariant.moved)
          c.in_ok-copy.ensures.moves.moved));
      reached = subst (λ (js : List ℕ). AllReached 0 c.move_node.new.to.nodes js) (sym c.in_ok-push.ensures.items)
          (reached-more 0 c.loop-root.to.nodes c.move_node.new.to.nodes c.loop-root.moved.items c.in_ok-copy.copy c.in_ok-copy.ensures.moves.kept c.loop-root.invariant.reached c.in_ok-copy.ensures.reached);
      count = c.in_ok-copy.ensures.moves.count;
      numbered = c.in_ok-copy.ensures.moves.numbered;
    }

pub returns-clause-moved : goal.returns-clause-moved
returns-clause-moved c = subst (λ (ks : List ℕ). AllMoved c.args.self.now.nodes c.loop-root.to.nodes ks c.loop-root.moved.items) (take_all c.loop-root.root-index c.args.roots.now c.loop-root-test.false) c.loop-root.invariant.moved
