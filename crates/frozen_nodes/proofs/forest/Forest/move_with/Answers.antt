use Rattle.std.proofs.Common.{◌≡◌, ◌∙◌, ◌++◌, ◌∷◌, [], ℕ, List, Option, ap, sym, subst, arith, drop, length, length-append}
use Rattle.frozen_nodes.specs.Forest.{FrozenNode, node_at, rows_of_node}
use Rattle.frozen_nodes.specs.Moves.{AllMoved, AreNumbers, IsMoved}
use Rattle.frozen_nodes.proofs.Grown.{node-new}
use Rattle.frozen_nodes.proofs.Moving.{all-length, kids-new, moved-new, numbers-kept, numbers-set}
use Rattle.frozen_nodes.proofs.forest.Forest.move_with.Goals as goal

pub push-requires-clause-kids : goal.push-requires-clause-kids
push-requires-clause-kids c =
    let own : c.after-own.result.now ≡ drop c.args.start c.args.stack.now.items = c.after-own.ensures ∙ ap (drop c.args.start) c.as_slice.ensures.value in
    kids-new c.args.self.now.nodes c.args.to.now.nodes c.args.n (node_at c.args.self.now.nodes c.args.n).kids c.after-own.result.now (c.invariants.ensures c.args.n)
    (subst (λ (ks : List ℕ). AllMoved c.args.self.now.nodes c.args.to.now.nodes (node_at c.args.self.now.nodes c.args.n).kids ks) (sym own) c.requires.kids)

pub push-requires-clause-few : goal.push-requires-clause-few
push-requires-clause-few c =
    let own : length c.after-own.result.now ≡ length (drop c.args.start c.args.stack.now.items) = ap length (c.after-own.ensures ∙ ap (drop c.args.start) c.as_slice.ensures.value) in
    let kids : length c.kids-count.result.now ≡ length (node_at c.args.self.now.nodes c.args.n).kids = ap length c.kids-count.ensures.kids in
    omega (arith, own, kids, c.kids-count.ensures.few, all-length c.args.self.now.nodes c.args.to.now.nodes (node_at c.args.self.now.nodes c.args.n).kids (drop c.args.start c.args.stack.now.items) c.requires.kids)

pub returns-clause-moves : goal.returns-clause-moves
returns-clause-moves c =
    let own : c.after-own.result.now ≡ drop c.args.start c.args.stack.now.items = c.after-own.ensures ∙ ap (drop c.args.start) c.as_slice.ensures.value in
    let kids = subst (λ (ks : List ℕ). AllMoved c.args.self.now.nodes c.args.to.now.nodes (node_at c.args.self.now.nodes c.args.n).kids ks) (sym own) c.requires.kids in
    let same : record { name = c.name.result.now; row = c.row.result; kids = c.after-own.result.now }
    ≡ record { name = (node_at c.args.self.now.nodes c.args.n).name; row = (node_at c.args.self.now.nodes c.args.n).row; kids = c.after-own.result.now } =
    λ i. record { name = c.name.ensures.name i; row = c.row.ensures i; kids = c.after-own.result.now } in
    let grown = c.in_ok-number.ensures.ok ∙ ap (λ (x : FrozenNode). c.args.to.now.nodes ++ x ∷ []) same in
    let node = node-new c.args.to.now.nodes c.push.new.self.nodes (record { name = (node_at c.args.self.now.nodes c.args.n).name; row = (node_at c.args.self.now.nodes c.args.n).row; kids = c.after-own.result.now }) c.in_ok-number.number grown c.in_ok-number.ensures.number in
    let moved : IsMoved c.args.self.now.nodes c.push.new.self.nodes c.args.n c.in_ok-number.number =
    moved-new c.args.self.now.nodes c.args.to.now.nodes c.push.new.self.nodes c.args.n c.in_ok-number.number c.after-own.result.now c.invariants.ensures c.requires.node kids grown node.0 node.1
    (c.in_ok-number.ensures.rows ∙ ap (rows_of_node c.args.to.now.nodes) same) in
    record {
      count = c.set_number.ensures.count ∙ c.requires.count;
      numbered = subst (λ (ms : List (Option ℕ)). AreNumbers c.args.self.now.nodes c.push.new.self.nodes ms) (sym c.set_number.ensures.items)
          (numbers-set c.args.self.now.nodes c.push.new.self.nodes c.args.numbers.now.items c.args.n c.in_ok-number.number
          (numbers-kept c.args.self.now.nodes c.args.to.now.nodes c.push.new.self.nodes c.args.numbers.now.items c.in_ok-number.ensures.others c.requires.numbered) moved);
      kept = c.in_ok-number.ensures.others;
      moved = moved;
    }

pub returns-clause-one : goal.returns-clause-one
returns-clause-one c =
    let l = ap length c.in_ok-number.ensures.ok in
    omega (arith, l, length-append c.args.to.now.nodes (record { name = c.name.result.now; row = c.row.result; kids = c.after-own.result.now } ∷ []))

pub returns-clause-own : goal.returns-clause-own
returns-clause-own c =
    let node = node-new c.args.to.now.nodes c.push.new.self.nodes (record { name = c.name.result.now; row = c.row.result; kids = c.after-own.result.now }) c.in_ok-number.number c.in_ok-number.ensures.ok c.in_ok-number.ensures.number in
    ap (λ (x : FrozenNode). x.kids) node.0 ∙ c.after-own.ensures ∙ ap (drop c.args.start) c.as_slice.ensures.value
