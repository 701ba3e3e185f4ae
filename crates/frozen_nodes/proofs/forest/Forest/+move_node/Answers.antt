use Rattle.std.proofs.Common.{◌≡◌, ◌∙◌, ◌+◌, ◌<◌, ◌++◌, ◌∷◌, [], ℕ, List, ap, sym, subst, arith, drop, get_or, length, take, take_all}
use Rattle.std.proofs.lemmas.List.{take_more}
use Rattle.frozen_nodes.specs.Forest.{AreBelow}
use Rattle.frozen_nodes.specs.Moves.{AllMoved, AllReached}
use Rattle.frozen_nodes.proofs.Copying.{drop-end, drop-joined, keeps-both, long-enough, take-joined}
use Rattle.frozen_nodes.proofs.Grown.{keeps-itself}
use Rattle.frozen_nodes.proofs.Moving.{all-kept, all-more, reached-more, reached-node, reached-none}
use Rattle.frozen_nodes.proofs.Walks.{below-at}
use Rattle.frozen_nodes.proofs.forest.Forest.+move_node.Goals as goal

pub returns-in-Some-clause-moves : goal.returns-in-Some-clause-moves
returns-in-Some-clause-moves t c = record {
  count = c.requires.count;
  numbered = c.requires.numbered;
  kept = keeps-itself c.args.to.now.nodes;
  moved = c.requires.numbered c.args.n c.in-Some.number c.in-Some.ensures;
}

pub loop-kid-init : goal.loop-kid-init
loop-kid-init t c =
    let start : length c.as_slice-start.result.now ≡ length c.args.stack.now.items = ap length c.as_slice-start.ensures.value in
    record {
      start = start;
      same = take_all (length c.as_slice-start.result.now) c.args.stack.now.items (omega (arith, start));
      moved = subst (λ (ks : List ℕ). AllMoved c.args.self.now.nodes c.args.to.now.nodes (take 0 c.kids-kids.result.now) ks) (sym (drop-end c.args.stack.now.items (length c.as_slice-start.result.now) (omega (arith, start)))) tt;
      count = c.requires.count;
      numbered = c.requires.numbered;
      reached = reached-none c.args.to.now.nodes (drop (length c.as_slice-start.result.now) c.args.stack.now.items);
      kept = keeps-itself c.args.to.now.nodes;
    }

pub move_node-requires : goal.move_node-requires
move_node-requires t c =
    let below : get_or c.kids-kids.result.now c.loop-kid.kid-index 0 < c.args.n =
    below-at c.args.n c.kids-kids.result.now c.loop-kid.kid-index 0 (subst (λ (ks : List ℕ). AreBelow c.args.n ks) (sym c.kids-kids.ensures.kids) (c.invariants.ensures c.args.n).below) c.loop-kid-test.true in
    (omega (arith, below), (omega (arith, below, c.requires.node), (c.loop-kid.invariant.count, c.loop-kid.invariant.numbered)))

pub loop-kid-preserved : goal.loop-kid-preserved
loop-kid-preserved t c =
    let enough = long-enough c.loop-kid.stack.items c.args.stack.now.items (length c.as_slice-start.result.now) c.loop-kid.invariant.same c.loop-kid.invariant.start in
    let items : c.push.new.self.items ≡ c.loop-kid.stack.items ++ c.in_ok-moved.moved ∷ [] = c.in_ok-push.ensures.items ∙ ap (λ (ks : List ℕ). ks ++ c.in_ok-moved.moved ∷ []) c.in_ok-moved.ensures.stack in
    let own : drop (length c.as_slice-start.result.now) c.push.new.self.items ≡ drop (length c.as_slice-start.result.now) c.loop-kid.stack.items ++ c.in_ok-moved.moved ∷ [] =
    ap (drop (length c.as_slice-start.result.now)) items ∙ drop-joined c.loop-kid.stack.items (c.in_ok-moved.moved ∷ []) (length c.as_slice-start.result.now) enough in
    let more : take (c.loop-kid.kid-index + 1) c.kids-kids.result.now ≡ take c.loop-kid.kid-index c.kids-kids.result.now ++ get_or c.kids-kids.result.now c.loop-kid.kid-index 0 ∷ [] =
    take_more c.kids-kids.result.now c.loop-kid.kid-index 0 c.loop-kid-test.true in
    record {
      start = c.loop-kid.invariant.start;
      same = ap (take (length c.as_slice-start.result.now)) items ∙ take-joined c.loop-kid.stack.items (c.in_ok-moved.moved ∷ []) (length c.as_slice-start.result.now) enough ∙ c.loop-kid.invariant.same;
      moved = subst (λ (ks : List ℕ). AllMoved c.args.self.now.nodes c.move_node.new.to.nodes ks (drop (length c.as_slice-start.result.now) c.push.new.self.items)) (sym more)
          (subst (λ (js : List ℕ). AllMoved c.args.self.now.nodes c.move_node.new.to.nodes (take c.loop-kid.kid-index c.kids-kids.result.now ++ get_or c.kids-kids.result.now c.loop-kid.kid-index 0 ∷ []) js) (sym own)
          (all-more c.args.self.now.nodes c.move_node.new.to.nodes (take c.loop-kid.kid-index c.kids-kids.result.now) (drop (length c.as_slice-start.result.now) c.loop-kid.stack.items) (get_or c.kids-kids.result.now c.loop-kid.kid-index 0) c.in_ok-moved.moved
          (all-kept c.args.self.now.nodes c.loop-kid.to.nodes c.move_node.new.to.nodes (take c.loop-kid.kid-index c.kids-kids.result.now) (drop (length c.as_slice-start.result.now) c.loop-kid.stack.items) c.in_ok-moved.ensures.moves.kept c.loop-kid.invariant.moved)
          c.in_ok-moved.ensures.moves.moved));
      count = c.in_ok-moved.ensures.moves.count;
      numbered = c.in_ok-moved.ensures.moves.numbered;
      reached = subst (λ (js : List ℕ). AllReached (length c.args.to.now.nodes) c.move_node.new.to.nodes js) (sym own)
          (reached-more (length c.args.to.now.nodes) c.loop-kid.to.nodes c.move_node.new.to.nodes (drop (length c.as_slice-start.result.now) c.loop-kid.stack.items) c.in_ok-moved.moved c.in_ok-moved.ensures.moves.kept c.loop-kid.invariant.reached c.in_ok-moved.ensures.reached);
      kept = keeps-both c.args.to.now.nodes c.loop-kid.to.nodes c.move_node.new.to.nodes c.loop-kid.invariant.kept c.in_ok-moved.ensures.moves.kept;
    }

pub move_with-requires-clause-kids : goal.move_with-requires-clause-kids
move_with-requires-clause-kids t c =
    subst (λ (ks : List ℕ). AllMoved c.args.self.now.nodes c.loop-kid.to.nodes ks (drop (length c.as_slice-start.result.now) c.loop-kid.stack.items))
    (take_all c.loop-kid.kid-index c.kids-kids.result.now c.loop-kid-test.false ∙ c.kids-kids.ensures.kids) c.loop-kid.invariant.moved

pub returns-clause-moves : goal.returns-clause-moves
returns-clause-moves t c = record {
  count = c.in_ok-number.ensures.moves.count;
  numbered = c.in_ok-number.ensures.moves.numbered;
  kept = keeps-both c.args.to.now.nodes c.loop-kid.to.nodes c.move_with.new.to.nodes c.loop-kid.invariant.kept c.in_ok-number.ensures.moves.kept;
  moved = c.in_ok-number.ensures.moves.moved;
}

pub returns-in-Some-clause-reached : goal.returns-in-Some-clause-reached
returns-in-Some-clause-reached t c = reached-none c.args.to.now.nodes (c.in-Some.number ∷ [])

pub returns-clause-reached : goal.returns-clause-reached
returns-clause-reached t c =
    reached-node (length c.args.to.now.nodes) c.loop-kid.to.nodes c.move_with.new.to.nodes (drop (length c.as_slice-start.result.now) c.loop-kid.stack.items) c.in_ok-number.number
    c.in_ok-number.ensures.moves.kept c.loop-kid.invariant.reached c.in_ok-number.ensures.one c.in_ok-number.ensures.number c.in_ok-number.ensures.own

pub returns-clause-stack : goal.returns-clause-stack
returns-clause-stack t c = c.in_ok-number.ensures.stack ∙ c.loop-kid.invariant.same
