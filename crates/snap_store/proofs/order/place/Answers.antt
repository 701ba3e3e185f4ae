use Rattle.std.proofs.Common.{◌≡◌, Bool, rules, subst, List, true, false, sym}
use Rattle.std.specs.Ordering.{is_lt}
use Rattle.std.proofs.lemmas.List.Sorted.{IsPartitionPoint-from_clause}
use Rattle.std.specs.List.Sorted.{IsPartitionPoint, IsPartitionedBy}
use Rattle.snap_store.specs.Snapshots.{Snapshot, key_of, snapshot_cmp}
use Rattle.snap_store.proofs.OrderLemmas.{rising-parted}
use Rattle.snap_store.proofs.Taken.{snapshot-total}
use Rattle.snap_store.proofs.order.place.Goals as goal

test : Snapshot → Snapshot → Bool
test key x = is_lt (snapshot_cmp x key)

pub returns-clause-parted : goal.returns-clause-parted
unfolding test
returns-clause-parted c =
    subst (λ (xs : List Snapshot). IsPartitionPoint (λ x. test (key_of c.args.dir c.args.name.now) x ≡ true) (λ x. test (key_of c.args.dir c.args.name.now) x ≡ false) xs c.partition_point.result) c.as_slice.ensures.value
    (IsPartitionPoint-from_clause (test (key_of c.args.dir c.args.name.now)) c.as_slice.result.now c.partition_point.result c.partition_point.ensures.partitioned
    (subst (λ (xs : List Snapshot). IsPartitionedBy (test (key_of c.args.dir c.args.name.now)) xs) (sym c.as_slice.ensures.value) (rising-parted snapshot_cmp snapshot-total (key_of c.args.dir c.args.name.now) c.args.taken.now.items c.requires))
    (λ a r q k. search rules))
