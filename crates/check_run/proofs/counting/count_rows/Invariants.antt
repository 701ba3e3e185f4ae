use Rattle.std.proofs.Common.{◌≡◌, take}
use Rattle.check_run.specs.Rows.{row_counts}
use Rattle.check_run.proofs.counting.count_rows.Given as goal

abbrev pub invariant-loop-at : goal.invariant-loop-at
invariant-loop-at l = l.counts ≡ row_counts l.keys.table.keys.rows l.names.table (take l.at l.tree.rows)
