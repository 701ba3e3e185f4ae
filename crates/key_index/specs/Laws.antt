-- Properties of the places of materials in the key log.
use Rattle.std.specs.Prelude.{◌≡◌, ◌+◌, List, [], ◌∷◌, ◌++◌, ℕ, length, find, IsTrue, Option, Some}
use Rattle.frame_log.specs.Stands.{Is}
use Rattle.key_rows.specs.declared.rows.KeyCommand.{KeyCommand}
use Rattle.key_rows.specs.Sound.{IsKeyTable}
use Rattle.key_rows.specs.Table.{applies}
use Rattle.hk_base.specs.declared.names.Dek.{Dek}
use Rattle.hk_base.specs.declared.names.VersionName.{VersionName}
use Rattle.key_index.specs.declared.cache.MaterialKey.{MaterialKey}
use Rattle.key_index.specs.declared.rows.PlacedRow.{PlacedRow}
use Rattle.key_index.specs.Cache.{AreCached, IsOlder}
use Rattle.key_index.specs.Held.{AreHeld, InLog, log_front, material_at}
use Rattle.key_index.specs.Index.{Index, Materials, after_at, is_named, materials_after, place_of, table_of}
use Rattle.key_index.specs.Sound.{IsSoundIndex}

-- A command that applies is added to the log: the log then holds the materials of the index after it, if the
-- material's place is where it ends the record.
abbrev pub StaysInLog : Type 0
StaysInLog = (m : Materials) (commands : List KeyCommand) (x : Index) (command : KeyCommand) → IsSoundIndex x → IsTrue (applies (table_of m x) command) → InLog m commands x
    → InLog (materials_after m x command) (commands ++ command ∷ []) (after_at x command (material_at (length (log_front commands) + 5) command))

-- a file that has this log holds the materials, whatever follows the log's end
abbrev pub IsReadFromLog : Type 0
IsReadFromLog = (bytes : List ℕ) (unsettled : Option (List ℕ)) (m : Materials) (commands : List KeyCommand) (x : Index) → Is (log_front commands) unsettled bytes → InLog m commands x → AreHeld m bytes x

-- materials that a file holds make a table
abbrev pub HeldMakesTable : Type 0
HeldMakesTable = (m : Materials) (file : List ℕ) (x : Index) → IsSoundIndex x → AreHeld m file x → IsKeyTable (table_of m x)

-- a command that applies keeps what a cache has
abbrev pub CacheStays : Type 0
CacheStays = (m : Materials) (x : Index) (command : KeyCommand) (place : ℕ) (entries : List (MaterialKey × Dek)) → IsSoundIndex x → IsTrue (applies (table_of m x) command) → AreCached m x entries
    → AreCached (materials_after m x command) (after_at x command place) entries

-- a version whose place is looked up is an older one
abbrev pub PlacedIsOlder : Type 0
PlacedIsOlder = (x : Index) (version : VersionName) (row : PlacedRow) (place : ℕ) → IsSoundIndex x → find (is_named version.key) x.rows ≡ Some row → place_of x.rows version ≡ Some place
    → IsOlder x (record { birth = row.row.birth; number = version.number })
