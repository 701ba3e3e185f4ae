use Rattle.std.proofs.Common.{◌-◌, length}
use Rattle.row_copies.specs.Copies.{ChainOf}
use Rattle.row_copies.proofs.WalkLemmas.{Walked}
use Rattle.row_copies.proofs.walk.+copy_block.Given as goal

abbrev pub decreases-copy_block : goal.decreases-copy_block
decreases-copy_block g l = 101 - length l.from.now

abbrev pub invariant-loop-child : goal.invariant-loop-child
invariant-loop-child g l = record {
  ready : g.C.Clusters.ready l.clusters;
  steps : ChainOf g.C.Clusters.follows l.fn.clusters l.clusters;
  walked : Walked l.fn.from l.fn.to l.child-index (g.C.Clusters.state l.fn.clusters) (g.C.Clusters.state l.clusters) l.fn.counts l.counts;
}
