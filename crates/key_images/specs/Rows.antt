-- A key of an image is read from left to right: its fields, and the bytes after it.
use Rattle.std.specs.Prelude.{ℕ, ◌-◌, ◌*◌, ◌/◌, ◌&&◌, nat_lt, List, drop, Option, Some, None, if◌then◌else◌}
use Rattle.std.specs.Int.{w16, w32, w64}
use Rattle.hk_base.specs.declared.names.Dek.{Dek}
use Rattle.key_rows.specs.Reading.{◌>>=◌, bytes_at, long_at, name_of, number_at, short_at, text_of}
use Rattle.key_rows.specs.Table.{is_length}
use Rattle.key_index.specs.declared.rows.IndexRow.{IndexRow}
use Rattle.key_images.specs.declared.rows.KeyHead.{KeyHead}

-- the fields before the materials
unfoldable pub head_at : List ℕ → Option (KeyHead × List ℕ)
head_at bytes = do
  birth ← number_at w64 bytes
  named ← short_at birth.1
  name ← name_of named.0
  bits ← number_at w16 named.1
  described ← long_at bits.1
  description ← text_of described.0
  created ← number_at w64 described.1
  Some (record { birth = birth.0; name = name; bits = bits.0; description = description; created = created.0 }, created.1)

-- the last of 1 to 65,535 materials of a length that a key may have
abbrev pub current_in : ℕ → ℕ → List ℕ → Option Dek
current_in bits versions materials = if is_length bits && nat_lt 0 versions && nat_lt versions 65536 then Some (drop ((versions - 1) * (bits / 8)) materials) else None

-- a key without its older materials, the bytes of all its materials, and the bytes after it
unfoldable pub row_at : List ℕ → Option (IndexRow × List ℕ × List ℕ)
row_at bytes = do
  head ← head_at bytes
  count ← number_at w32 head.1
  materials ← bytes_at (count.0 * (head.0.bits / 8)) count.1
  current ← current_in head.0.bits count.0 materials.0
  Some (record { name = head.0.name; birth = head.0.birth; bits = head.0.bits; current = current; versions = count.0; description = head.0.description; created = head.0.created }, materials.0, materials.1)
