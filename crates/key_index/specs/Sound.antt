-- What is true of each index of keys.
use Rattle.std.specs.Prelude.{◌≡◌, ℕ, ◌^◌, ◌/◌, ◌<◌, ◌≤◌, List, length, IsTrue}
use Rattle.std.specs.List.{AllByRecursion}
use Rattle.key_rows.specs.declared.by_name.NamedBirth.{NamedBirth}
use Rattle.key_rows.specs.Names.{IsIndex}
use Rattle.key_rows.specs.Table.{is_length}
use Rattle.key_rows.specs.Sound.{AreRowsRising, NamesOnce}
use Rattle.key_index.specs.declared.rows.IndexRow.{IndexRow}
use Rattle.key_index.specs.declared.rows.PlacedRow.{PlacedRow}
use Rattle.key_index.specs.Index.{Index, Materials, row_of, rows_of}

-- a key has a birth of opening 1 or later, one of the lengths, 1 to 65,535 versions, and a current material of its length
pub record IsIndexRow (row : IndexRow) : Type 0 where
  pub born : 2 ^ 32 ≤ row.birth
  pub bits : IsTrue (is_length row.bits)
  pub some : 0 < row.versions
  pub few : row.versions ≤ 65535
  pub current : length row.current ≡ row.bits / 8

-- each version has a place
pub record IsPlacedRow (placed : PlacedRow) : Type 0 where
  pub row : IsIndexRow placed.row
  pub places : length placed.places ≡ placed.row.versions

-- Births increase, and the names of the keys in order are those of the table. Neither depends on the materials.

abbrev pub AreRising : List PlacedRow → Type 0
AreRising rows = (top : ℕ) × ((m : Materials) → AreRowsRising 0 (rows_of m rows) top)

abbrev pub AreNamed : List PlacedRow → List NamedBirth → Type 0
AreNamed rows entries = (m : Materials) → IsIndex (rows_of m rows) entries

-- Births increase, and no two keys have the same name. Neither depends on the materials.
pub record IsSoundIndex (x : Index) : Type 0 where
  pub opening : x.opening < 2 ^ 32
  pub few : length x.rows ≤ 10000
  pub births : (m : Materials) → AreRowsRising 0 (rows_of m x.rows) x.greatest
  pub names : (m : Materials) → NamesOnce (rows_of m x.rows)
  pub rows : AllByRecursion IsPlacedRow x.rows

-- the materials of a key have its length, and those of all keys
abbrev pub AreSized : Materials → IndexRow → Type 0
AreSized m row = AllByRecursion (λ (material : List ℕ). length material ≡ row.bits / 8) (row_of m row).materials

abbrev pub AllSized : Materials → Index → Type 0
AllSized m x = AllByRecursion (λ (placed : PlacedRow). AreSized m placed.row) x.rows
