use Rattle.std.proofs.Common.{◌≡◌, ◌<◌, length, drop}
use Rattle.frozen_nodes.specs.Forest.{node_below}
use Rattle.frozen_nodes.proofs.forest.Forest.node_below.Given as goal

abbrev pub invariant-loop-k : goal.invariant-loop-k
invariant-loop-k l = record {
  within : l.n < length l.self.nodes;
  same : node_below l.self.nodes l.root l.path ≡ node_below l.self.nodes l.n (drop l.k l.path);
}
