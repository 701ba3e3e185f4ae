-- Paths of entries that are read, and the places that are copied.
use Rattle.std.specs.Prelude.{◌≡◌, ℕ, Bool, true, List, [], ◌++◌, take, drop, Option, Some, None, if◌then◌else◌, bytes_eq, codes, length, ◌==◌}
use Rattle.name_calls.specs.declared.read_paths.ReadPath.{ReadPath}
use Rattle.name_calls.specs.declared.read_paths.SnapPart.{SnapPart}
use Rattle.name_calls.specs.Paths.{is_absolute, is_component, is_relative, names_text, path_text}
use Rattle.name_calls.specs.ReadPaths.{mark, read_any_path}

abbrev pub below_part : List (List ℕ) → Option SnapPart → List (List ℕ) → ReadPath
below_part path None below = record { path = path ++ below; snapshot = None }
below_part path (Some part) below = record { path = path; snapshot = Some (record { name = part.name; below = part.below ++ below }) }

-- the path of an entry below a place: these names further down
abbrev pub place_below : ReadPath → List (List ℕ) → ReadPath
place_below place below = below_part place.path place.snapshot below

abbrev pub part_text : List (List ℕ) → Option SnapPart → List ℕ
part_text path None = path_text path
part_text path (Some part) = names_text path ++ mark ++ part.name ++ names_text part.below

-- the text form of the path of an entry that is read
abbrev pub read_path_text : ReadPath → List ℕ
read_path_text place = part_text place.path place.snapshot

-- the rule of a place in a snapshot
abbrev pub IsSnapshotPart : Option SnapPart → Type 0
IsSnapshotPart None = Unit {0}
IsSnapshotPart (Some part) = (is_component part.name ≡ true) × (is_relative part.below ≡ true)

-- the rule of paths that are read
pub record IsRuled (place : ReadPath) : Type 0 where
  pub directory : is_absolute place.path ≡ true
  pub part : IsSnapshotPart place.snapshot

-- ---- the place to copy

-- where the entries of a namesystem are found with their encrypted keys and their stored bodies
abbrev pub raw : List ℕ
raw = codes "/.reserved/raw"

-- the directory as it is, or a snapshot of it, and nothing below that snapshot
abbrev pub is_whole_snapshot : Option SnapPart → Bool
is_whole_snapshot None = true
is_whole_snapshot (Some part) = length part.below == 0

abbrev pub whole_directory : Option ReadPath → Option ReadPath
whole_directory None = None
whole_directory (Some place) = if is_whole_snapshot place.snapshot then Some place else None

-- the place with this text form: `/.reserved/raw`, and after it the path of a directory or of a snapshot of one
abbrev pub read_raw_place : List ℕ → Option ReadPath
read_raw_place bytes = if bytes_eq (take 14 bytes) raw then whole_directory (read_any_path (drop 14 bytes)) else None
