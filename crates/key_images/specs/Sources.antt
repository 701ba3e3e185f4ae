-- The table of an index whose older materials are read from a range of the file of the key log.
use Rattle.std.specs.Prelude.{ℕ, ◌+◌, ◌-◌, ◌/◌, ◌≤◌, List, [], ◌∷◌, ◌++◌, map, take}
use Rattle.std.specs.List.{AllByRecursion, concat}
use Rattle.hk_base.specs.Disk.{piece}
use Rattle.key_rows.specs.declared.rows.KeyRow.{KeyRow}
use Rattle.key_rows.specs.Table.{Table}
use Rattle.key_index.specs.declared.rows.PlacedRow.{PlacedRow}
use Rattle.key_index.specs.Index.{Index}

-- A key whose current material is in the index, and whose older ones are read at their places; and a table of such keys.

abbrev pub row_by : (ℕ → ℕ → List ℕ) → PlacedRow → KeyRow
row_by read placed = record {
  name = placed.row.name;
  birth = placed.row.birth;
  bits = placed.row.bits;
  materials = map (read (placed.row.bits / 8)) (take (placed.row.versions - 1) placed.places) ++ placed.row.current ∷ [];
  description = placed.row.description;
  created = placed.row.created;
}

abbrev pub table_by : (ℕ → ℕ → List ℕ) → Index → Table
table_by read x = record { opening = x.opening; greatest = x.greatest; rows = map (row_by read) x.rows }

-- so many bytes at a place of a file
abbrev pub bytes_of : List ℕ → ℕ → ℕ → List ℕ
bytes_of file len place = piece place len file

-- the older materials of a key in a file, one after another
abbrev pub older_bytes : List ℕ → PlacedRow → List ℕ
older_bytes file placed = concat (map (bytes_of file (placed.row.bits / 8)) (take (placed.row.versions - 1) placed.places))

-- so many bytes at a place, if only a range of the file is known, which begins at the offset `from`
abbrev pub bytes_in : ℕ → List ℕ → ℕ → ℕ → List ℕ
bytes_in from held len place = piece (place - from) len held

-- the table of an index, by what a range of the file holds
abbrev pub table_in : ℕ → List ℕ → Index → Table
table_in from held x = table_by (bytes_in from held) x

-- each material of a key lies in the range of `count` bytes from an offset on, and those of all keys
abbrev pub LiesIn : ℕ → ℕ → PlacedRow → Type 0
LiesIn from count placed = AllByRecursion (λ (place : ℕ). (from ≤ place) × (place + placed.row.bits / 8 ≤ from + count)) placed.places

abbrev pub AreIn : ℕ → ℕ → Index → Type 0
AreIn from count x = AllByRecursion (LiesIn from count) x.rows

-- an index, and the range that has its older materials
pub record KeySource : Type 0 where
  pub index : Index
  pub from : ℕ
  pub count : ℕ
