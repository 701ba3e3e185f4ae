use Rattle.std.proofs.Common.{rules, subst, List, sym}
use Rattle.std.specs.List.Sorted.{IsPartitionedBy}
use Rattle.std.proofs.lemmas.List.Sorted.{IsPartitionPoint-from_clause}
use Rattle.eek_queues.specs.declared.order.QueuePlace.{QueuePlace}
use Rattle.eek_queues.specs.Order.{is_before}
use Rattle.eek_queues.proofs.Put.{Parted}
use Rattle.eek_queues.proofs.Places.{in_order-parts}
use Rattle.eek_queues.proofs.order.place_in.Goals as goal

pub returns-clause-parted : goal.returns-clause-parted
returns-clause-parted c =
    subst (λ (ps : List QueuePlace). Parted is_before c.args.place ps c.partition_point.result) c.as_slice.ensures.value
    (IsPartitionPoint-from_clause (λ p. is_before p c.args.place) c.as_slice.result.now c.partition_point.result c.partition_point.ensures.partitioned
    (subst (λ (ps : List QueuePlace). IsPartitionedBy (λ p. is_before p c.args.place) ps) (sym c.as_slice.ensures.value) (in_order-parts c.args.places.now.items c.args.place c.requires))
    (λ a r q k. search rules))
