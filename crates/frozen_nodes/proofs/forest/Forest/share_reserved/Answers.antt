use Rattle.std.proofs.Common.{◌≡◌, ◌∙◌, true, ap, arith, refl}
use Rattle.frozen_nodes.specs.Forest.{rows_of_node}
use Rattle.frozen_nodes.proofs.Grown.{keeps-itself, node-new}
use Rattle.frozen_nodes.proofs.Subtrees.{rows-by-kids}
use Rattle.frozen_nodes.proofs.forest.Forest.share_reserved.Goals as goal

pub returns-then-is_node : goal.returns-then-is_node
returns-then-is_node c = record {
  within = (c.is_node.ensures.0 c.if-is_node.true).0;
  node = (c.is_node.ensures.0 c.if-is_node.true).1;
  rows = rows-by-kids c.args.self.now.nodes c.invariants.ensures c.args.hint (c.is_node.ensures.0 c.if-is_node.true).0 ∙ ap (rows_of_node c.args.self.now.nodes) (c.is_node.ensures.0 c.if-is_node.true).1;
  others = keeps-itself c.args.self.now.nodes;
  shared = λ h e. (refl, refl);
  spent = record { nodes_less = omega arith; kids_less = omega arith; bytes_less = omega arith };
}

pub returns-clause-within : goal.returns-clause-within
returns-clause-within c = (node-new c.args.self.now.nodes c.push_reserved.new.self.nodes (record { name = c.args.name.now; row = c.args.row; kids = c.args.kids.now }) c.push_reserved.result c.push_reserved.ensures.nodes c.push_reserved.ensures.number).1

pub returns-clause-node : goal.returns-clause-node
returns-clause-node c = (node-new c.args.self.now.nodes c.push_reserved.new.self.nodes (record { name = c.args.name.now; row = c.args.row; kids = c.args.kids.now }) c.push_reserved.result c.push_reserved.ensures.nodes c.push_reserved.ensures.number).0

pub returns-clause-shared : goal.returns-clause-shared
returns-clause-shared c = λ h e. let t : c.is_node.result ≡ true = c.is_node.ensures.1 (h, e) in let f = c.if-is_node.false in absurd (cc)
