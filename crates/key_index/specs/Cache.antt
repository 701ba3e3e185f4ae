-- A cache of older materials.
use Rattle.std.specs.Prelude.{◌≡◌, ◌+◌, ◌<◌, ◌≤◌, ◌&&◌, ◌==◌, Bool, List}
use Rattle.std.specs.List.{AllByRecursion}
use Rattle.hk_base.specs.declared.names.Dek.{Dek}
use Rattle.key_index.specs.declared.cache.MaterialKey.{MaterialKey}
use Rattle.key_index.specs.declared.rows.PlacedRow.{PlacedRow}
use Rattle.key_index.specs.Index.{Index, Materials}

-- the same birth and the same number
abbrev pub is_key : MaterialKey → MaterialKey → Bool
is_key key other = key.birth == other.birth && key.number == other.number

-- the entry has the material of its version
abbrev pub IsMaterialOf : Materials → MaterialKey × Dek → Type 0
IsMaterialOf m entry = entry.1 ≡ m entry.0.birth entry.0.number

-- The entry is of a version that is not the current one of a key in the index, nor will be: its key has more
-- versions, or was deleted, and births are not used again.
pub record IsOlder (x : Index) (key : MaterialKey) : Type 0 where
  pub older : AllByRecursion (λ (placed : PlacedRow). placed.row.birth ≡ key.birth → key.number + 1 < placed.row.versions) x.rows
  pub born : key.birth ≤ x.greatest

-- each entry has the material of its version, which is an older one
abbrev pub AreCached : Materials → Index → List (MaterialKey × Dek) → Type 0
AreCached m x entries = AllByRecursion (λ (entry : MaterialKey × Dek). IsMaterialOf m entry × IsOlder x entry.0) entries
