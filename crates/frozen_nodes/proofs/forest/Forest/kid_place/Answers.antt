use Rattle.std.proofs.Common.{rules}
use Rattle.std.proofs.lemmas.List.Sorted.{IsPartitionPoint-from_clause}
use Rattle.frozen_nodes.proofs.Sought.{comes_first, order-parted}
use Rattle.frozen_nodes.proofs.forest.Forest.kid_place.Goals as goal

pub returns-clause-parted : goal.returns-clause-parted
returns-clause-parted c =
    IsPartitionPoint-from_clause (comes_first c.args.self.now.nodes c.args.name.now) c.args.kids.now c.partition_point.result c.partition_point.ensures.partitioned
    (order-parted c.args.self.now.nodes c.args.name.now c.args.kids.now c.requires)
    (λ a r q k. search rules)
