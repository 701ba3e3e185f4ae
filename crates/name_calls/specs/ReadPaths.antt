-- Paths of entries that are read, as they are or as they were in a snapshot.
use Rattle.std.specs.Prelude.{ℕ, ◌+◌, Bool, ◌==◌, List, [], ◌∷◌, length, take, drop, Option, Some, None, option_map, if◌then◌else◌, bytes_eq, codes}
use Rattle.std.specs.List.{before_first, slice_split}
use Rattle.name_calls.specs.declared.read_paths.ReadPath.{ReadPath}
use Rattle.name_calls.specs.Paths.{is_component, read_path, relative}

-- an entry as it is
abbrev pub as_it_is : List (List ℕ) → ReadPath
as_it_is p = record { path = p; snapshot = None }

-- an entry as it was in a snapshot of the directory at the path
abbrev pub as_it_was : List (List ℕ) → List ℕ → List (List ℕ) → ReadPath
as_it_was p name below = record { path = p; snapshot = Some (record { name = name; below = below }) }

-- between a directory and its snapshots
abbrev pub mark : List ℕ
mark = codes "/.snapshot/"

abbrev pub starts_mark : List ℕ → Bool
starts_mark bytes = bytes_eq (take 11 bytes) mark

-- how many bytes come before the first mark, if there is one
abbrev pub mark_at : List ℕ → Option ℕ
mark_at [] = None
mark_at (b ∷ bytes) = if starts_mark (b ∷ bytes) then Some 0 else option_map (λ n. n + 1) (mark_at bytes)

-- the directory before the mark; nothing stands for the root there
abbrev pub read_directory : List ℕ → Option (List (List ℕ))
read_directory [] = Some []
read_directory (b ∷ bytes) = read_path (b ∷ bytes)

-- a slash before each name that leads down from the directory
abbrev pub read_below : List ℕ → Option (List (List ℕ))
read_below [] = Some []
read_below (b ∷ []) = None
read_below (b ∷ c ∷ bytes) = relative (slice_split (λ x. x == 47) (c ∷ bytes))

abbrev pub read_parts : Option (List (List ℕ)) → List ℕ → Option (List (List ℕ)) → Option ReadPath
read_parts None name below = None
read_parts (Some p) name None = None
read_parts (Some p) name (Some below) = if is_component name then Some (as_it_was p name below) else None

-- the name of a snapshot up to the next slash
abbrev pub snapshot_name : List ℕ → List ℕ
snapshot_name = before_first (λ x. x == 47)

abbrev pub read_in_snapshot : List ℕ → List ℕ → Option ReadPath
read_in_snapshot front rest = read_parts (read_directory front) (snapshot_name rest) (read_below (drop (length (snapshot_name rest)) rest))

abbrev pub read_around : List ℕ → Option ℕ → Option ReadPath
read_around bytes None = option_map as_it_is (read_path bytes)
read_around bytes (Some at) = read_in_snapshot (take at bytes) (drop (at + 11) bytes)

-- The path with this text form: that of an entry as it is, or, if it has the mark, the directory before it, and after it the name of a
-- snapshot and the names below the directory.
abbrev pub read_any_path : List ℕ → Option ReadPath
read_any_path bytes = read_around bytes (mark_at bytes)
