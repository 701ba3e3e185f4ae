use Rattle.std.proofs.Common.{sym}
use Rattle.name_store.proofs.UpdateLemmas.{may-lie}
use Rattle.name_store.proofs.updates.may_update.Goals as goal

pub returns-else-not-is_of_key : goal.returns-else-not-is_of_key
returns-else-not-is_of_key c opening snaps =
    may-lie (record { opening = opening; rows = c.args.tree.now.rows; snaps = snaps; statuses = c.args.statuses.now.rows }) c.args.session c.args.file.now c.in-Some.row c.row_lies_under.result
    (sym c.in-Some.ensures) (sym c.if-not-is_of_key.ensures) c.row_lies_under.ensures
