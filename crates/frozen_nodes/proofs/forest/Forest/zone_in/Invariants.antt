use Rattle.std.proofs.Common.{◌≡◌, ◌<◌, length}
use Rattle.frozen_nodes.specs.Forest.{rows_from}
use Rattle.frozen_nodes.proofs.Walks.{zone_further}
use Rattle.frozen_nodes.proofs.ZoneSteps.{depth}
use Rattle.frozen_nodes.proofs.forest.Forest.zone_in.Given as goal

abbrev pub invariant-loop-k : goal.invariant-loop-k
invariant-loop-k l = record {
  within : l.n < length l.self.nodes;
  same : depth (rows_from l.self.nodes l.root) l.path ≡ zone_further l.self.nodes l.n l.k l.path l.zone;
}
