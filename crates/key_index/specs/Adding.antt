-- An index that is built row by row: a key is added with the places of all its materials.
use Rattle.std.specs.Prelude.{◌≡◌, ℕ, ◌<◌, ◌≤◌, nat_lt, List, [], ◌∷◌, length, find, None, if◌then◌else◌}
use Rattle.key_index.specs.declared.rows.IndexRow.{IndexRow}
use Rattle.key_index.specs.declared.rows.PlacedRow.{PlacedRow}
use Rattle.key_index.specs.Index.{Index, is_born, is_named}
use Rattle.key_index.specs.Sound.{IsIndexRow}

-- no keys, after this last opening; a create used this birth as the greatest one
abbrev pub index_since : ℕ → ℕ → Index
index_since opening greatest = record { opening = opening; greatest = greatest; rows = [] }

-- a key among the others, in order of birth
abbrev pub put_by_birth : PlacedRow → List PlacedRow → List PlacedRow
put_by_birth new [] = new ∷ []
put_by_birth new (placed ∷ rows) = if nat_lt placed.row.birth new.row.birth then placed ∷ put_by_birth new rows else new ∷ placed ∷ rows

abbrev pub with_placed : Index → IndexRow → List ℕ → Index
with_placed x row places = record x { rows = put_by_birth (record { row = row; places = places }) x.rows }

-- the key may be added: it keeps the rules of a row, its name and birth are new, and the birth was used
pub record MayAddRow (x : Index) (row : IndexRow) (places : List ℕ) : Type 0 where
  pub rules : IsIndexRow row
  pub name : find (is_named row.name) x.rows ≡ None
  pub birth : find (is_born row.birth) x.rows ≡ None
  pub used : row.birth ≤ x.greatest
  pub few : length x.rows < 10000
  pub each_placed : length places ≡ row.versions
