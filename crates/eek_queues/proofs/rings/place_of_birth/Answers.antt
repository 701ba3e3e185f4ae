use Rattle.std.proofs.Common.{rules, subst, List, sym}
use Rattle.std.specs.Prelude.{nat_lt}
use Rattle.std.specs.List.Sorted.{IsPartitionedBy}
use Rattle.std.proofs.lemmas.List.Sorted.{IsPartitionPoint-from_clause, IsPartitionedBy-ltb}
use Rattle.eek_queues.specs.declared.rings.Ring.{Ring}
use Rattle.eek_queues.proofs.RingLemmas.{PartedAt, births-rise}
use Rattle.eek_queues.proofs.rings.place_of_birth.Goals as goal

pub returns-clause-parted : goal.returns-clause-parted
returns-clause-parted c =
    subst (λ (rings : List Ring). PartedAt rings c.args.birth c.partition_point.result) c.as_slice.ensures.value
    (IsPartitionPoint-from_clause (λ ring. nat_lt ring.birth c.args.birth) c.as_slice.result.now c.partition_point.result c.partition_point.ensures.partitioned
    (subst (λ (rings : List Ring). IsPartitionedBy (λ ring. nat_lt ring.birth c.args.birth) rings) (sym c.as_slice.ensures.value)
    (IsPartitionedBy-ltb (λ ring. ring.birth) c.args.rings.now.items c.args.birth (births-rise c.args.rings.now.items c.requires)))
    (λ a r q k. search rules))
