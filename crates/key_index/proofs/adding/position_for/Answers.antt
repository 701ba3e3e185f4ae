use Rattle.std.proofs.Common.{rules, subst, List, sym}
use Rattle.std.specs.Prelude.{nat_lt}
use Rattle.std.specs.List.Sorted.{IsPartitionedBy}
use Rattle.std.proofs.lemmas.List.Sorted.{IsPartitionPoint-from_clause}
use Rattle.key_index.specs.declared.rows.PlacedRow.{PlacedRow}
use Rattle.key_index.proofs.Addings.{PartedBy, births_parted}
use Rattle.key_index.proofs.adding.position_for.Goals as goal

pub returns-clause-parted : goal.returns-clause-parted
returns-clause-parted c =
    subst (λ (rows : List PlacedRow). PartedBy c.args.birth rows c.partition_point.result) c.as_slice.ensures.value
    (IsPartitionPoint-from_clause (λ placed. nat_lt placed.row.birth c.args.birth) c.as_slice.result.now c.partition_point.result c.partition_point.ensures.partitioned
    (subst (λ (rows : List PlacedRow). IsPartitionedBy (λ placed. nat_lt placed.row.birth c.args.birth) rows) (sym c.as_slice.ensures.value)
    (births_parted c.args.rows.now.items c.args.birth c.requires))
    (λ a r q k. search rules))
