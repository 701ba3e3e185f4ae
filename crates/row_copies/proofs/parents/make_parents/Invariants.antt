use Rattle.std.proofs.Common.{take, ◌≡◌}
use Rattle.row_copies.specs.Copies.{ChainOf, MakesAbove}
use Rattle.row_copies.proofs.parents.make_parents.Given as goal

abbrev pub invariant-loop-k : goal.invariant-loop-k
invariant-loop-k g l = record {
  path : l.path ≡ take l.k l.fn.to;
  made : MakesAbove l.k l.fn.to (g.C.Clusters.state l.fn.clusters) (g.C.Clusters.state l.clusters);
  ready : g.C.Clusters.ready l.clusters;
  steps : ChainOf g.C.Clusters.follows l.fn.clusters l.clusters;
}
