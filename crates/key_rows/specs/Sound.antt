-- What is true of each table of keys.
use Rattle.std.specs.Prelude.{◌≡◌, ◌≢◌, ℕ, ◌^◌, ◌/◌, ◌<◌, ◌≤◌, List, [], ◌∷◌, length, IsTrue}
use Rattle.std.specs.List.{AllByRecursion}
use Rattle.key_rows.specs.declared.rows.KeyRow.{KeyRow}
use Rattle.key_rows.specs.Table.{Table, is_length}

-- births increase, start above `low` and end at or below `top`
abbrev pub AreRowsRising : ℕ → List KeyRow → ℕ → Type 0
AreRowsRising low [] top = low ≤ top
AreRowsRising low (row ∷ rows) top = (low < row.birth) × AreRowsRising row.birth rows top

-- no two rows have the same name
abbrev pub NamesOnce : List KeyRow → Type 0
NamesOnce [] = Unit {0}
NamesOnce (row ∷ rows) = AllByRecursion (λ (other : KeyRow). other.name ≢ row.name) rows × NamesOnce rows

-- a key has a birth of opening 1 or later, one of the lengths, 1 to 65,535 versions, and materials of its length
pub record IsRow (row : KeyRow) : Type 0 where
  pub born : 2 ^ 32 ≤ row.birth
  pub bits : IsTrue (is_length row.bits)
  pub some : 0 < length row.materials
  pub few : length row.materials ≤ 65535
  pub materials : AllByRecursion (λ (material : List ℕ). length material ≡ row.bits / 8) row.materials

pub record IsKeyTable (t : Table) : Type 0 where
  pub opening : t.opening < 2 ^ 32
  pub few : length t.rows ≤ 10000
  pub births : AreRowsRising 0 t.rows t.greatest
  pub names : NamesOnce t.rows
  pub rows : AllByRecursion IsRow t.rows
