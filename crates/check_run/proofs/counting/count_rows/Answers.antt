use Rattle.check_run.proofs.RowLemmas.{counts_more}
use Rattle.check_run.proofs.counting.count_rows.Goals as goal

pub loop-at-preserved : goal.loop-at-preserved
loop-at-preserved c =
    counts_more c.args.keys.now.table.keys.rows c.args.names.now.table c.tree-tree.result.now.rows c.loop-at.at c.row_at_place-row.result c.loop-at.counts c.in_ok-next.next c.row_at_place-row.ensures c.loop-at.invariant
    c.in_ok-next.ensures
