-- The records of the key log: the one encoding of each command. Numbers are big-endian.
use Rattle.std.specs.Prelude.{ℕ, ◌<◌, ◌≤◌, ◌^◌, ◌/◌, Bool, true, ◌&&◌, ◌==◌, List, ◌∷◌, ◌++◌, length, IsTrue}
use Rattle.std.specs.Int.{w16, w32, w64, to_be_bytes}
use Rattle.std.specs.Str.{IsUtf8}
use Rattle.hk_base.specs.declared.names.KeyName.{KeyName}
use Rattle.hk_base.specs.declared.names.Dek.{Dek}
use Rattle.hk_base.specs.Names.{IsKeyName, is_key_length}
use Rattle.kms_calls.specs.declared.description.Description.{Description}
use Rattle.key_rows.specs.declared.rows.KeyCommand.{KeyCommand}
use Rattle.key_rows.specs.declared.rows.KeyCommand.TheVariants.{Opened, Create, Roll, Delete}
use Rattle.key_rows.specs.Table.{is_length}

-- a name: one byte with its length, and its bytes
abbrev pub name_field : List ℕ → List ℕ
name_field name = length name ∷ name

-- a text: two bytes with its length, and its bytes
abbrev pub text_field : List ℕ → List ℕ
text_field text = to_be_bytes w16 (length text) ++ text

-- The bytes of a command. Material comes last and takes the rest of the record.
abbrev pub spelling : KeyCommand → List ℕ
spelling (Opened opening) = 1 ∷ to_be_bytes w32 opening
spelling (Create birth name bits description created material) =
    2 ∷ (to_be_bytes w64 birth ++ (name_field name ++ (to_be_bytes w16 bits ++ (text_field description ++ (to_be_bytes w64 created ++ material)))))
spelling (Roll birth number material) = 3 ∷ (to_be_bytes w64 birth ++ to_be_bytes w16 number ++ material)
spelling (Delete birth) = 4 ∷ to_be_bytes w64 birth

-- the length of a key in bits, and material of that length
abbrev pub fits_bits : ℕ → Dek → Bool
fits_bits bits material = is_length bits && length material == bits / 8

-- the first material of a key has the key's length
abbrev pub fits : KeyCommand → Bool
fits (Opened opening) = true
fits (Create birth name bits description created material) = fits_bits bits material
fits (Roll birth number material) = true
fits (Delete birth) = true

pub record CreateHasSpelling (birth : ℕ) (name : KeyName) (bits : ℕ) (description : Description) (created : ℕ) (material : Dek) : Type 0 where
  pub birth_fits : birth < 2 ^ 64
  pub is_name : IsKeyName name
  pub short : length description ≤ 65535
  pub is_text : IsUtf8 description
  pub created_fits : created < 2 ^ 64
  pub lengths : IsTrue (fits_bits bits material)

-- The commands that have an encoding: each number is in its range, names are key names, a description is
-- UTF-8 of at most 65,535 bytes, and material has 16, 24 or 32 bytes, at a create as many as its bits say.
abbrev pub HasSpelling : KeyCommand → Type 0
HasSpelling (Opened opening) = opening < 2 ^ 32
HasSpelling (Create birth name bits description created material) = CreateHasSpelling birth name bits description created material
HasSpelling (Roll birth number material) = (birth < 2 ^ 64) × (number < 2 ^ 16) × IsTrue (is_key_length (length material))
HasSpelling (Delete birth) = birth < 2 ^ 64
