use Rattle.std.proofs.Common.{◌≡◌, ℕ, drop}
use Rattle.std.specs.List.{list_all}
use Rattle.snap_store.specs.Snapshots.{SnapTable}
use Rattle.name_store.specs.Table.{may_update}
use Rattle.name_store.proofs.updates.may_update_each.Given as goal

abbrev pub invariant-loop-file : goal.invariant-loop-file
invariant-loop-file l =
    (opening : ℕ) (snaps : SnapTable)
    → list_all (may_update (record { opening = opening; rows = l.tree.rows; snaps = snaps; statuses = l.statuses.rows }) l.session) l.fn.files
    ≡ list_all (may_update (record { opening = opening; rows = l.tree.rows; snaps = snaps; statuses = l.statuses.rows }) l.session) (drop l.file-index l.fn.files)
