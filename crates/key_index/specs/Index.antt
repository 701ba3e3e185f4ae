-- An index of keys: a table of keys without its older materials, and where each material is in the file of the key log.
use Rattle.std.specs.Prelude.{ℕ, zero, suc, ◌+◌, ◌-◌, ◌/◌, Bool, false, not, ◌&&◌, ◌==◌, nat_lt, List, [], ◌∷◌, ◌++◌, length, map, filter, find, Option, Some, None, is_none, is_some, slice_get, bytes_eq, if◌then◌else◌, option_and_then}
use Rattle.std.specs.Option.{option_map_or}
use Rattle.hk_base.specs.declared.names.KeyName.{KeyName}
use Rattle.hk_base.specs.declared.names.Dek.{Dek}
use Rattle.hk_base.specs.declared.names.VersionName.{VersionName}
use Rattle.kms_calls.specs.declared.description.Description.{Description}
use Rattle.key_rows.specs.declared.rows.KeyRow.{KeyRow}
use Rattle.key_rows.specs.declared.rows.KeyCommand.{KeyCommand}
use Rattle.key_rows.specs.declared.rows.KeyCommand.TheVariants.{Opened, Create, Roll, Delete}
use Rattle.key_rows.specs.Table.{Table, is_length, opening_of}
use Rattle.key_index.specs.declared.rows.IndexRow.{IndexRow}
use Rattle.key_index.specs.declared.rows.PlacedRow.{PlacedRow}

-- the last opening, the greatest birth that a create used, and the keys in order of birth
pub record Index : Type 0 where
  pub opening : ℕ
  pub greatest : ℕ
  pub rows : List PlacedRow

-- An index, and the capacity that is reserved for a command: one that applies and needs at most `spare`
-- allocates nothing. The capacity is not part of the index.
pub record KeptIndex : Type 0 where
  pub index : Index
  pub spare : ℕ

abbrev pub no_index : Index
no_index = record { opening = 0; greatest = 0; rows = [] }

-- The material of each version, by the birth of its key and its number. A birth is of one key only, and a
-- version keeps its material, so one such function serves for all versions that ever were.
abbrev pub Materials : Type 0
Materials = ℕ → ℕ → Dek

-- the first n materials of the key of a birth
abbrev pub older : Materials → ℕ → ℕ → List Dek
older m birth zero = []
older m birth (suc n) = older m birth n ++ m birth n ∷ []

-- what an index stands for, beside the materials: a key, keys, and a table

abbrev pub row_of : Materials → IndexRow → KeyRow
row_of m row = record {
  name = row.name;
  birth = row.birth;
  bits = row.bits;
  materials = older m row.birth (row.versions - 1) ++ row.current ∷ [];
  description = row.description;
  created = row.created;
}

abbrev pub rows_of : Materials → List PlacedRow → List KeyRow
rows_of m rows = map (λ placed. row_of m placed.row) rows

abbrev pub table_of : Materials → Index → Table
table_of m x = record { opening = x.opening; greatest = x.greatest; rows = rows_of m x.rows }

abbrev pub is_named : KeyName → PlacedRow → Bool
is_named name placed = bytes_eq placed.row.name name

abbrev pub is_born : ℕ → PlacedRow → Bool
is_born birth placed = placed.row.birth == birth

-- the current material of the key with a birth
abbrev pub newest : ℕ → List PlacedRow → Dek
newest birth rows = option_map_or (λ placed. placed.row.current) (find (is_born birth) rows) []

-- a key with its first version, and with one more
abbrev pub first_version : ℕ → KeyName → ℕ → Description → ℕ → Dek → IndexRow
first_version birth name bits description created material =
    record { name = name; birth = birth; bits = bits; current = material; versions = 1; description = description; created = created }

abbrev pub with_version : Dek → ℕ → PlacedRow → PlacedRow
with_version material place placed = record {
  row = record placed.row { current = material; versions = placed.row.versions + 1 };
  places = placed.places ++ place ∷ [];
}

-- the key gains a version if it has the birth
abbrev pub rolled_at : ℕ → Dek → ℕ → PlacedRow → PlacedRow
rolled_at birth material place placed = if is_born birth placed then with_version material place placed else placed

-- the index with one more key, whose first material is at this place
abbrev pub with_row : Index → IndexRow → ℕ → Index
with_row x row place = record { opening = x.opening; greatest = row.birth; rows = x.rows ++ record { row = row; places = place ∷ [] } ∷ [] }

-- the index after a command whose material is at this place
abbrev pub after_at : Index → KeyCommand → ℕ → Index
after_at x (Opened opening) place = record x { opening = opening }
after_at x (Create birth name bits description created material) place =
    with_row x (first_version birth name bits description created material) place
after_at x (Roll birth number material) place = record x { rows = map (rolled_at birth material place) x.rows }
after_at x (Delete birth) place = record x { rows = filter (λ placed. not (is_born birth placed)) x.rows }

-- the materials after a command: a roll makes the current material an older one, that of the version before
abbrev pub materials_after : Materials → Index → KeyCommand → Materials
materials_after m x (Roll birth number material) = λ b n. if b == birth && n + 1 == number then newest birth x.rows else m b n
materials_after m x _ = m

-- the place of a version's material, if the key has the version and it is not the current one
abbrev pub older_place : ℕ → PlacedRow → Option ℕ
older_place number placed = if nat_lt (number + 1) placed.row.versions then slice_get placed.places number else None

abbrev pub place_of : List PlacedRow → VersionName → Option ℕ
place_of rows version = option_and_then (older_place version.number) (find (is_named version.key) rows)

-- Whether a command applies to the table that the index stands for. The materials make no difference: a
-- table has the number of versions, and not more of them is asked.

abbrev pub may_roll_at : Option PlacedRow → ℕ → Dek → Bool
may_roll_at None number material = false
may_roll_at (Some placed) number material = number == placed.row.versions && nat_lt number 65535 && length material == placed.row.bits / 8

abbrev pub may_create_at : Index → KeyName → ℕ → ℕ → Dek → Bool
may_create_at x name birth bits material =
    nat_lt 0 x.opening && is_none (find (is_named name) x.rows) && opening_of birth == x.opening && nat_lt x.greatest birth
    && nat_lt (length x.rows) 10000 && is_length bits && length material == bits / 8

abbrev pub applies_at : Index → KeyCommand → Bool
applies_at x (Opened opening) = opening == x.opening + 1
applies_at x (Create birth name bits description created material) = may_create_at x name birth bits material
applies_at x (Roll birth number material) = nat_lt 0 x.opening && may_roll_at (find (is_born birth) x.rows) number material
applies_at x (Delete birth) = nat_lt 0 x.opening && is_some (find (is_born birth) x.rows)
