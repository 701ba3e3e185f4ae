-- The table of keys that a list of commands makes.
use Rattle.std.specs.Prelude.{ℕ, ◌+◌, ◌-◌, ◌/◌, ◌^◌, Bool, false, not, ◌&&◌, ◌||◌, ◌==◌, nat_lt, List, [], ◌∷◌, ◌++◌, length, map, filter, find, Option, Some, None, is_none, is_some, if◌then◌else◌, bytes_eq, slice_get, option_and_then}
use Rattle.hk_base.specs.declared.names.KeyName.{KeyName}
use Rattle.hk_base.specs.declared.names.Dek.{Dek}
use Rattle.hk_base.specs.declared.names.VersionName.{VersionName}
use Rattle.key_rows.specs.declared.rows.KeyRow.{KeyRow}
use Rattle.key_rows.specs.declared.rows.KeyCommand.{KeyCommand}
use Rattle.key_rows.specs.declared.rows.KeyCommand.TheVariants.{Opened, Create, Roll, Delete}

-- the last opening, the greatest birth that a create used, and the keys in order of birth
pub record Table : Type 0 where
  pub opening : ℕ
  pub greatest : ℕ
  pub rows : List KeyRow

-- A table, and the capacity that is reserved for a command: one that applies and needs at most `spare`
-- allocates nothing. The capacity is not part of the table.
pub record KeptTable : Type 0 where
  pub keys : Table
  pub spare : ℕ

-- what a command needs: capacity for the materials of the key that it makes or extends
abbrev pub need : KeyCommand → ℕ
need (Opened opening) = 0
need (Create birth name bits description created material) = 1
need (Roll birth number material) = number + 1
need (Delete birth) = 0

abbrev pub no_keys : Table
no_keys = record { opening = 0; greatest = 0; rows = [] }

-- the opening in which a key of this birth was created
abbrev pub opening_of : ℕ → ℕ
opening_of birth = birth / 2 ^ 32

abbrev pub is_named : KeyName → KeyRow → Bool
is_named name row = bytes_eq row.name name

abbrev pub is_born : ℕ → KeyRow → Bool
is_born birth row = row.birth == birth

-- the key with a name, and the key with a birth
abbrev pub find_name : List KeyRow → KeyName → Option KeyRow
find_name rows name = find (is_named name) rows

abbrev pub find_birth : List KeyRow → ℕ → Option KeyRow
find_birth rows birth = find (is_born birth) rows

-- the material of a version, if the key has it
abbrev pub material_of : List KeyRow → VersionName → Option Dek
material_of rows version = option_and_then (λ row. slice_get row.materials version.number) (find_name rows version.key)

-- a key has 128, 192 or 256 bits
abbrev pub is_length : ℕ → Bool
is_length bits = bits == 128 || bits == 192 || bits == 256

abbrev pub may_roll : Option KeyRow → ℕ → Dek → Bool
may_roll None number material = false
may_roll (Some row) number material = number == length row.materials && nat_lt number 65535 && length material == row.bits / 8

-- when a command applies
abbrev pub applies : Table → KeyCommand → Bool
applies t (Opened opening) = opening == t.opening + 1
applies t (Create birth name bits description created material) =
    nat_lt 0 t.opening && is_none (find_name t.rows name) && opening_of birth == t.opening && nat_lt t.greatest birth
    && nat_lt (length t.rows) 10000 && is_length bits && length material == bits / 8
applies t (Roll birth number material) = nat_lt 0 t.opening && may_roll (find_birth t.rows birth) number material
applies t (Delete birth) = nat_lt 0 t.opening && is_some (find_birth t.rows birth)

abbrev pub with_material : Dek → KeyRow → KeyRow
with_material material row = record row { materials = row.materials ++ material ∷ [] }

-- the row gains the material if it has the birth
abbrev pub rolled : ℕ → Dek → KeyRow → KeyRow
rolled birth material row = if is_born birth row then with_material material row else row

-- the table after a command
abbrev pub after : Table → KeyCommand → Table
after t (Opened opening) = record t { opening = opening }
after t (Create birth name bits description created material) =
    record {
      opening = t.opening;
      greatest = birth;
      rows = t.rows ++ record { name = name; birth = birth; bits = bits; materials = material ∷ []; description = description; created = created } ∷ [];
    }
after t (Roll birth number material) = record t { rows = map (rolled birth material) t.rows }
after t (Delete birth) = record t { rows = filter (λ row. not (is_born birth row)) t.rows }

-- the current version of a key is its newest
abbrev pub current_of : KeyRow → VersionName
current_of row = record { key = row.name; number = length row.materials - 1 }
