use Rattle.key_rows.specs.Sound.{IsRow}
use Rattle.key_rows.specs.Table.{is_born}
use Rattle.key_rows.proofs.Births.{found_has}
use Rattle.key_rows.proofs.TableLemmas.{copied_row}
use Rattle.key_rows.proofs.table.KeyTable.with_birth.Goals as goal

pub returns-clause-row : goal.returns-clause-row
returns-clause-row c = copied_row IsRow c.row_at.result _ c.row_at.ensures (found_has IsRow (is_born c.args.birth) _ c.self.invariant.0.rows)
