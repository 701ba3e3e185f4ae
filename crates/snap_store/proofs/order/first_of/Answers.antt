use Rattle.std.proofs.Common.{◌≡◌, Bool, rules, subst, ℕ, List, true, false, sym}
use Rattle.std.specs.Prelude.{nat_lt}
use Rattle.std.proofs.lemmas.List.Sorted.{IsPartitionPoint-from_clause, IsPartitionedBy-ltb}
use Rattle.std.specs.List.Sorted.{IsPartitionPoint, IsPartitionedBy}
use Rattle.snap_store.specs.Snapshots.{Snapshot}
use Rattle.snap_store.proofs.Taken.{dirs-rise}
use Rattle.snap_store.proofs.order.first_of.Goals as goal

test : ℕ → Snapshot → Bool
test dir x = nat_lt x.dir dir

pub returns-clause-parted : goal.returns-clause-parted
unfolding test
returns-clause-parted c =
    subst (λ (xs : List Snapshot). IsPartitionPoint (λ x. test c.args.dir x ≡ true) (λ x. test c.args.dir x ≡ false) xs c.partition_point.result) c.as_slice.ensures.value
    (IsPartitionPoint-from_clause (test c.args.dir) c.as_slice.result.now c.partition_point.result c.partition_point.ensures.partitioned
    (subst (λ (xs : List Snapshot). IsPartitionedBy (test c.args.dir) xs) (sym c.as_slice.ensures.value) (IsPartitionedBy-ltb (λ s. s.dir) c.args.taken.now.items c.args.dir (dirs-rise c.args.taken.now.items c.requires)))
    (λ a r q k. search rules))
