-- The number of bytes of keys in an image, by what an index has of them.
use Rattle.std.specs.Prelude.{ℕ, ◌+◌, ◌*◌, ◌/◌, List, [], ◌∷◌, length}
use Rattle.key_index.specs.declared.rows.IndexRow.{IndexRow}
use Rattle.key_index.specs.declared.rows.PlacedRow.{PlacedRow}

abbrev pub row_len : IndexRow → ℕ
row_len row = 25 + length row.name + length row.description + row.versions * (row.bits / 8)

abbrev pub rows_len : List PlacedRow → ℕ
rows_len [] = 0
rows_len (placed ∷ rows) = row_len placed.row + rows_len rows
