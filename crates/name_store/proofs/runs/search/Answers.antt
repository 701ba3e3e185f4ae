use Rattle.std.proofs.Common.{rules, subst, List, sym}
use Rattle.std.specs.Prelude.{nat_le}
use Rattle.std.specs.List.Sorted.{IsPartitionedBy}
use Rattle.std.proofs.lemmas.List.Sorted.{IsPartitionPoint-from_clause, IsPartitionedBy-leb}
use Rattle.name_store.specs.declared.runs.Run.{Run}
use Rattle.name_store.proofs.RunLemmas.{PartedAt, firsts_rise}
use Rattle.name_store.proofs.runs.search.Goals as goal

pub returns-clause-parted : goal.returns-clause-parted
returns-clause-parted c =
    subst (λ (runs : List Run). PartedAt runs c.args.id c.partition_point.result) c.as_slice.ensures.value
    (IsPartitionPoint-from_clause (λ run. nat_le run.first c.args.id) c.as_slice.result.now c.partition_point.result c.partition_point.ensures.partitioned
    (subst (λ (runs : List Run). IsPartitionedBy (λ run. nat_le run.first c.args.id) runs) (sym c.as_slice.ensures.value)
    (IsPartitionedBy-leb (λ run. run.first) c.args.runs.now.items c.args.id (firsts_rise c.args.runs.now.items c.requires)))
    (λ a r q k. search rules))
