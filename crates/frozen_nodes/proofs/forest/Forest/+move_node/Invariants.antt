use Rattle.std.proofs.Common.{◌≡◌, drop, length, take}
use Rattle.frozen_nodes.specs.Forest.{KeepsNodes}
use Rattle.frozen_nodes.specs.Moves.{AllMoved, AllReached, AreNumbers}
use Rattle.frozen_nodes.proofs.forest.Forest.+move_node.Given as goal

abbrev pub invariant-loop-kid : goal.invariant-loop-kid
invariant-loop-kid l = record {
  start : l.start ≡ length l.fn.stack.items;
  same : take l.start l.stack.items ≡ l.fn.stack.items;
  moved : AllMoved l.self.nodes l.to.nodes (take l.kid-index l.kids) (drop l.start l.stack.items);
  count : length l.numbers.items ≡ length l.self.nodes;
  numbered : AreNumbers l.self.nodes l.to.nodes l.numbers.items;
  reached : AllReached (length l.fn.to.nodes) l.to.nodes (drop l.start l.stack.items);
  kept : KeepsNodes l.fn.to.nodes l.to.nodes;
}

abbrev pub decreases-move_node : goal.decreases-move_node
decreases-move_node l = l.n
