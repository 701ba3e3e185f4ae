use Rattle.std.proofs.Common.{◌≡◌}
use Rattle.zone_table.specs.Statuses.{with_end}
use Rattle.zone_table.proofs.StatusLists.{changed_until}
use Rattle.zone_table.proofs.statuses.end.Given as goal

abbrev pub invariant-loop-row : goal.invariant-loop-row
invariant-loop-row l = l.row-items ≡ changed_until (with_end l.session l.cancelled) l.row-index l.fn.rows.items
