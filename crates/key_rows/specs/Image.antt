-- The image of a table of keys: bytes that stand for the whole table. Numbers are big-endian.
use Rattle.std.specs.Prelude.{◌≡◌, ◌⊎◌, ◌<◌, ◌≤◌, ◌^◌, ℕ, List, [], ◌∷◌, ◌++◌, length}
use Rattle.std.specs.Int.{w16, w32, w64, to_be_bytes}
use Rattle.std.specs.List.{AllByRecursion, concat}
use Rattle.std.specs.Str.{IsUtf8}
use Rattle.hk_base.specs.declared.names.KeyName.{KeyName}
use Rattle.hk_base.specs.Names.{IsKeyName}
use Rattle.kms_calls.specs.declared.description.Description.{Description}
use Rattle.key_rows.specs.declared.rows.KeyRow.{KeyRow}
use Rattle.key_rows.specs.Records.{name_field, text_field}
use Rattle.key_rows.specs.Sound.{IsKeyTable}
use Rattle.key_rows.specs.Table.{Table, opening_of}

-- the fields of a key as the record of its creation has them, before the material
abbrev pub key_head : ℕ → KeyName → ℕ → Description → ℕ → List ℕ
key_head birth name bits description created =
    to_be_bytes w64 birth ++ (name_field name ++ (to_be_bytes w16 bits ++ (text_field description ++ to_be_bytes w64 created)))

-- these, the number of the materials, and all materials from version 0 on
abbrev pub key_row_image : KeyRow → List ℕ
key_row_image row =
    key_head row.birth row.name row.bits row.description row.created ++ (to_be_bytes w32 (length row.materials) ++ concat row.materials)

abbrev pub key_rows_image : List KeyRow → List ℕ
key_rows_image [] = []
key_rows_image (row ∷ rows) = key_row_image row ++ key_rows_image rows

-- the last opening, the greatest birth that a create used, the number of the keys, and the keys in order of birth
abbrev pub key_image : Table → List ℕ
key_image t = to_be_bytes w32 t.opening ++ (to_be_bytes w64 t.greatest ++ (to_be_bytes w32 (length t.rows) ++ key_rows_image t.rows))

-- a birth of an opening from 1 to the last one
pub record IsBirthUpTo (opening : ℕ) (birth : ℕ) : Type 0 where
  pub first : 1 ≤ opening_of birth
  pub last : opening_of birth ≤ opening

-- the name is a key name, the description is UTF-8 of at most 65,535 bytes, and the moment is in its range
pub record IsSpelledKey (row : KeyRow) : Type 0 where
  pub is_name : IsKeyName row.name
  pub short : length row.description ≤ 65535
  pub is_text : IsUtf8 row.description
  pub created_fits : row.created < 2 ^ 64

-- The tables that have an image. `IsKeyTable` asks for at most 10,000 keys with distinct names; births that increase, of
-- opening 1 or later, none above the greatest one; a length of 128, 192 or 256 bits; and 1 to 65,535 materials of this length.
-- If the greatest birth is of an opening up to the last one, then each birth is.
pub record HasKeyImage (t : Table) : Type 0 where
  pub table : IsKeyTable t
  pub greatest : (t.greatest ≡ 0) ⊎ IsBirthUpTo t.opening t.greatest
  pub spelled : AllByRecursion IsSpelledKey t.rows

-- the bytes are the image of this table
pub record IsKeyImage (bytes : List ℕ) (t : Table) : Type 0 where
  pub has : HasKeyImage t
  pub bytes_are : bytes ≡ key_image t
