use Rattle.frozen_nodes.proofs.Copying.{view-is}
use Rattle.frozen_nodes.proofs.forest.copies.row_before.Goals as goal

pub returns-then-at-end-clause-row : goal.returns-then-at-end-clause-row
returns-then-at-end-clause-row c = λ lt. view-is c.args.tree.now.rows c.args.at (record { depth = c.placed_row.result.depth; name = c.placed_row.result.name.now; row = c.placed_row.result.row.now }) c.placed_row.ensures
