use Rattle.std.proofs.Common.{◌≡◌, Bool, rules, subst, ℕ, List, true, false, sym}
use Rattle.std.specs.Prelude.{nat_lt}
use Rattle.std.proofs.lemmas.List.Sorted.{IsPartitionPoint-from_clause}
use Rattle.std.specs.List.Sorted.{IsPartitionPoint, IsPartitionedBy}
use Rattle.snap_store.proofs.Taken.{ids-parted}
use Rattle.snap_store.proofs.snaps.place_id.Goals as goal

test : ℕ → ℕ → Bool
test id x = nat_lt x id

pub returns-clause-parted : goal.returns-clause-parted
unfolding test
returns-clause-parted c =
    subst (λ (xs : List ℕ). IsPartitionPoint (λ x. test c.args.id x ≡ true) (λ x. test c.args.id x ≡ false) xs c.partition_point.result) c.as_slice.ensures.value
    (IsPartitionPoint-from_clause (test c.args.id) c.as_slice.result.now c.partition_point.result c.partition_point.ensures.partitioned
    (subst (λ (xs : List ℕ). IsPartitionedBy (test c.args.id) xs) (sym c.as_slice.ensures.value) (ids-parted c.args.ids.now.items c.args.id c.requires))
    (λ a r q k. search rules))
