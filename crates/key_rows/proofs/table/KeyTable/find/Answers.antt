use Rattle.std.proofs.Common.{◌≡◌, Some}
use Rattle.key_rows.specs.Sound.{IsRow}
use Rattle.key_rows.specs.Table.{find_birth}
use Rattle.key_rows.proofs.TableLemmas.{found_row, found_birth, copied_row}
use Rattle.key_rows.proofs.table.KeyTable.find.Goals as goal

pub returns-clause-row : goal.returns-clause-row
returns-clause-row c = copied_row IsRow c.row_of.result _ c.row_of.ensures (found_row _ c.args.name.now c.self.invariant.0)

pub returns-clause-birth : goal.returns-clause-birth
returns-clause-birth c = rw (← c.self.view_is) (copied_row (λ row. find_birth c.self.inside.rows.items row.birth ≡ Some row) c.row_of.result _ c.row_of.ensures (found_birth _ c.args.name.now c.self.invariant.0))
