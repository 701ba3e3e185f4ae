use Rattle.std.proofs.Common.{◌≡◌, length, take}
use Rattle.frozen_nodes.specs.Moves.{AllMoved, AllReached, AreNumbers}
use Rattle.frozen_nodes.proofs.forest.Forest.move_roots.Given as goal

abbrev pub invariant-loop-root : goal.invariant-loop-root
invariant-loop-root l = record {
  moved : AllMoved l.self.nodes l.to.nodes (take l.root-index l.roots) l.moved.items;
  reached : AllReached 0 l.to.nodes l.moved.items;
  count : length l.numbers.items ≡ length l.self.nodes;
  numbered : AreNumbers l.self.nodes l.to.nodes l.numbers.items;
}
