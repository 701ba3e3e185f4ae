-- The materials of an index as facts of the bytes of the key log: each is the piece of the file at its place.
use Rattle.std.specs.Prelude.{◌≡◌, ℕ, ◌+◌, ◌-◌, ◌/◌, Bool, false, nat_lt, List, [], length, map, Option, Some, None, slice_get}
use Rattle.std.specs.List.{AllByRecursion}
use Rattle.hk_base.specs.Disk.{piece}
use Rattle.hk_base.specs.declared.names.Dek.{Dek}
use Rattle.hk_base.specs.declared.names.VersionName.{VersionName}
use Rattle.frame_log.specs.Stands.{front}
use Rattle.key_rows.specs.declared.rows.KeyRow.{KeyRow}
use Rattle.key_rows.specs.declared.rows.KeyCommand.{KeyCommand}
use Rattle.key_rows.specs.declared.rows.KeyCommand.TheVariants.{Opened, Create, Roll, Delete}
use Rattle.key_rows.specs.Records.{spelling}
use Rattle.key_rows.specs.Table.{find_name}
use Rattle.key_index.specs.declared.rows.PlacedRow.{PlacedRow}
use Rattle.key_index.specs.Index.{Index, Materials, row_of}
use Rattle.key_index.specs.Sound.{AreSized}

-- the file holds the material of each version of a key, the current one too, at its place
pub record IsHeld (m : Materials) (file : List ℕ) (placed : PlacedRow) : Type 0 where
  pub pieces : map (λ place. piece place (placed.row.bits / 8) file) placed.places ≡ (row_of m placed.row).materials
  pub sized : AreSized m placed.row

-- and those of all keys
abbrev pub AreHeld : Materials → List ℕ → Index → Type 0
AreHeld m file x = AllByRecursion (IsHeld m file) x.rows

-- the version's material is the piece of the file at this place, as long as the key says
pub record IsMaterialAt (rows : List KeyRow) (version : VersionName) (file : List ℕ) (place : ℕ) : Type 0 where
  pub row : KeyRow
  pub found : find_name rows version.key ≡ Some row
  pub material : slice_get row.materials version.number ≡ Some (piece place (row.bits / 8) file)

-- whether a key has a version of this number that is not its current one
abbrev pub has_older : Option KeyRow → ℕ → Bool
has_older None number = false
has_older (Some row) number = nat_lt (number + 1) (length row.materials)

-- the material of a command, which ends its record; other records have none
abbrev pub material_in : KeyCommand → Dek
material_in (Opened opening) = []
material_in (Create birth name bits description created material) = material
material_in (Roll birth number material) = material
material_in (Delete birth) = []

-- the offset of the material of a command whose record is at this offset
abbrev pub material_at : ℕ → KeyCommand → ℕ
material_at offset command = offset + length (spelling command) - length (material_in command)

-- the file holds the material of a command at a place
abbrev pub HoldsMaterial : List ℕ → KeyCommand → ℕ → Type 0
HoldsMaterial file command place = piece place (length (material_in command)) file ≡ material_in command

-- the bytes of the key log of these commands before its end gate
abbrev pub log_front : List KeyCommand → List ℕ
log_front commands = front 0 (map spelling commands)

-- the key log of these commands holds the materials of an index
abbrev pub InLog : Materials → List KeyCommand → Index → Type 0
InLog m commands x = AreHeld m (log_front commands) x
