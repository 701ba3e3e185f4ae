-- The keys of an image are added to an index one after the other.
use Rattle.std.specs.Prelude.{◌≡◌, ℕ, ◌-◌, ◌<◌, ◌≤◌, List, [], ◌∷◌, ◌++◌, length, find, None}
use Rattle.std.specs.List.{AllByRecursion}
use Rattle.key_rows.specs.declared.rows.KeyRow.{KeyRow}
use Rattle.key_rows.specs.Image.{IsSpelledKey, key_row_image, key_rows_image}
use Rattle.key_rows.specs.Sound.{AreRowsRising, IsRow, NamesOnce}
use Rattle.key_index.specs.Index.{Index, is_named}
use Rattle.key_images.specs.Places.{placed_key, placed_keys}

-- The key may follow those of the index, whose births are at most `low`: its birth is greater, but not above the greatest one,
-- and its name is new.
pub record MayBeNext (low : ℕ) (x : Index) (key : KeyRow) : Type 0 where
  pub rules : IsRow key
  pub spelled : IsSpelledKey key
  pub above : low < key.birth
  pub used : key.birth ≤ x.greatest
  pub fresh : find (is_named key.name) x.rows ≡ None

-- the bytes, which end at an offset of the file, begin with such a key; it was added, and `rest` follows it
pub record IsNextKey (bytes : List ℕ) (end low : ℕ) (old new : Index) (birth : ℕ) (rest : List ℕ) : Type 0 where
  pub key : KeyRow
  pub parts : bytes ≡ key_row_image key ++ rest
  pub may : MayBeNext low old key
  pub birth_is : birth ≡ key.birth
  pub added : new ≡ record old { rows = old.rows ++ placed_key (end - length bytes) key ∷ [] }

-- the bytes do not begin with such a key
abbrev pub IsNoNextKey : List ℕ → ℕ → Index → Type 0
IsNoNextKey bytes low x = (key : KeyRow) (rest : List ℕ) → MayBeNext low x key → ¬ (bytes ≡ key_row_image key ++ rest)

-- the keys of an image with this greatest birth
pub record AreImageRows (greatest : ℕ) (rows : List KeyRow) : Type 0 where
  pub births : AreRowsRising 0 rows greatest
  pub names : NamesOnce rows
  pub rules : AllByRecursion IsRow rows
  pub spelled : AllByRecursion IsSpelledKey rows

-- the bytes are this number of keys, which were added to an index without keys
pub record AddsKeys (bytes : List ℕ) (end count : ℕ) (old new : Index) : Type 0 where
  pub rows : List KeyRow
  pub counted : length rows ≡ count
  pub are : AreImageRows old.greatest rows
  pub bytes_are : bytes ≡ key_rows_image rows
  pub added : new ≡ record old { rows = placed_keys (end - length bytes) rows }

-- they are not
abbrev pub AddsNoKeys : List ℕ → ℕ → Index → Type 0
AddsNoKeys bytes count x = (rows : List KeyRow) → length rows ≡ count → AreImageRows x.greatest rows → ¬ (bytes ≡ key_rows_image rows)
