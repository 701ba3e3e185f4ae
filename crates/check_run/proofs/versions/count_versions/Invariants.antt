use Rattle.std.proofs.Common.{◌≡◌, take}
use Rattle.std.specs.List.{sum_by}
use Rattle.check_run.specs.Rows.{versions_named}
use Rattle.check_run.proofs.versions.count_versions.Given as goal

abbrev pub invariant-loop-name : goal.invariant-loop-name
invariant-loop-name l = l.count ≡ sum_by (versions_named l.keys.table.keys.rows) (take l.name-index l.name-items)
