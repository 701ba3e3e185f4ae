use Rattle.std.proofs.Common.{◌≡◌, ◌++◌, take}
use Rattle.std.specs.List.{flat_map}
use Rattle.check_run.specs.Summary.{line_of_entry}
use Rattle.check_run.proofs.lost.append_lost.Given as goal

abbrev pub invariant-loop-at : goal.invariant-loop-at
invariant-loop-at l = l.text ≡ l.fn.text ++ flat_map (line_of_entry l.keys.table.keys.rows) (take l.at l.tree.rows)
