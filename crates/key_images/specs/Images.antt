-- An image of a table of keys, and the index that is read of it.
use Rattle.std.specs.Prelude.{◌≡◌, ℕ, ◌&&◌, ◌||◌, ◌==◌, nat_le, Bool, List, Option, Some}
use Rattle.std.specs.Int.{w32, w64}
use Rattle.key_rows.specs.Image.{IsKeyImage}
use Rattle.key_rows.specs.Reading.{◌>>=◌, number_at}
use Rattle.key_rows.specs.Table.{Table, opening_of}
use Rattle.key_index.specs.Index.{Index}
use Rattle.key_images.specs.Places.{index_at}

-- the last opening, the greatest birth, the number of keys, and the bytes after them
unfoldable pub header_at : List ℕ → Option (ℕ × ℕ × ℕ × List ℕ)
header_at bytes = do
  opening ← number_at w32 bytes
  greatest ← number_at w64 opening.1
  count ← number_at w32 greatest.1
  Some (opening.0, greatest.0, count.0, count.1)

-- 0, or a birth of an opening from 1 to the last one
abbrev pub may_be_greatest : ℕ → ℕ → Bool
may_be_greatest opening greatest = greatest == 0 || (nat_le 1 (opening_of greatest) && nat_le (opening_of greatest) opening)

-- the bytes, which are at this place of a file, are the image of the table that the index stands for
pub record IsIndexOfImage (bytes : List ℕ) (place : ℕ) (index : Index) : Type 0 where
  pub table : Table
  pub image : IsKeyImage bytes table
  pub index_is : index ≡ index_at place table

-- the bytes are the image of no table
abbrev pub IsNoImage : List ℕ → Type 0
IsNoImage bytes = (t : Table) → ¬ IsKeyImage bytes t
