-- Paths as lists of names: their order, their rules, and their text form.
use Rattle.std.specs.Prelude.{ℕ, ◌+◌, Bool, true, false, not, ◌&&◌, ◌==◌, nat_le, List, [], ◌∷◌, ◌++◌, length, Option, Some, None, if◌then◌else◌, bytes_eq, codes}
use Rattle.std.specs.List.{list_all, slice_split}
use Rattle.std.specs.declared.cmp.Ordering.{Ordering}
use Rattle.std.specs.Ordering.{nat_cmp, is_lt}
use Rattle.std.specs.Cmp.Lexicographic.{slice_cmp}
use Rattle.std.specs.Str.{is_utf8}

-- name by name, as bytes; a path comes before the paths below it
abbrev pub path_cmp : List (List ℕ) → List (List ℕ) → Ordering
path_cmp = slice_cmp (slice_cmp nat_cmp)

abbrev pub is_before : List (List ℕ) → List (List ℕ) → Bool
is_before p q = is_lt (path_cmp p q)

abbrev pub same_path : List (List ℕ) → List (List ℕ) → Bool
same_path [] [] = true
same_path [] (y ∷ q) = false
same_path (x ∷ p) [] = false
same_path (x ∷ p) (y ∷ q) = bytes_eq x y && same_path p q

-- the second path is the first or is below it
abbrev pub is_prefix : List (List ℕ) → List (List ℕ) → Bool
is_prefix [] q = true
is_prefix (x ∷ p) [] = false
is_prefix (x ∷ p) (y ∷ q) = bytes_eq x y && is_prefix p q

abbrev pub is_child : List (List ℕ) → List (List ℕ) → Bool
is_child p q = is_prefix p q && length q == length p + 1

-- the parent directory of a path; the root's is the root
abbrev pub parent : List (List ℕ) → List (List ℕ)
parent [] = []
parent (x ∷ []) = []
parent (x ∷ y ∷ p) = x ∷ parent (y ∷ p)

abbrev pub last_name : List (List ℕ) → List ℕ
last_name [] = []
last_name (x ∷ []) = x
last_name (x ∷ y ∷ p) = last_name (y ∷ p)

-- not a slash, a colon or a zero byte
abbrev pub is_plain_byte : ℕ → Bool
is_plain_byte b = not (b == 47) && not (b == 58) && not (b == 0)

-- 1 to 255 such bytes, UTF-8, and not `.`, `..` or `.snapshot`
abbrev pub is_component : List ℕ → Bool
is_component c =
    nat_le 1 (length c) && nat_le (length c) 255 && is_utf8 c && list_all is_plain_byte c
    && not (bytes_eq c (codes ".")) && not (bytes_eq c (codes "..")) && not (bytes_eq c (codes ".snapshot"))

abbrev pub starts_reserved : List (List ℕ) → Bool
starts_reserved [] = false
starts_reserved (c ∷ cs) = bytes_eq c (codes ".reserved")

-- each name, after a slash
abbrev pub names_text : List (List ℕ) → List ℕ
names_text [] = []
names_text (c ∷ cs) = 47 ∷ c ++ names_text cs

-- the text form of a path; the root is a slash
abbrev pub path_text : List (List ℕ) → List ℕ
path_text [] = 47 ∷ []
path_text (c ∷ cs) = names_text (c ∷ cs)

-- at most 100 names and 8,000 bytes
abbrev pub is_short : List (List ℕ) → Bool
is_short p = nat_le (length (path_text p)) 8000 && nat_le (length p) 100

-- the names from a directory down to an entry
abbrev pub is_relative : List (List ℕ) → Bool
is_relative p = list_all is_component p && is_short p

-- the names from the root down to an entry
abbrev pub is_absolute : List (List ℕ) → Bool
is_absolute p = is_relative p && not (starts_reserved p)

abbrev pub absolute : List (List ℕ) → Option (List (List ℕ))
absolute p = if is_absolute p then Some p else None

-- the path with this text form: a slash, and the names with slashes between them
abbrev pub read_path : List ℕ → Option (List (List ℕ))
read_path [] = None
read_path (b ∷ []) = if b == 47 then Some [] else None
read_path (b ∷ c ∷ bytes) = if b == 47 then absolute (slice_split (λ x. x == 47) (c ∷ bytes)) else None

abbrev pub relative : List (List ℕ) → Option (List (List ℕ))
relative p = if is_relative p then Some p else None

-- the path down from a directory with this text form: a slash, and the names with slashes between them
abbrev pub read_relative : List ℕ → Option (List (List ℕ))
read_relative [] = None
read_relative (b ∷ []) = if b == 47 then Some [] else None
read_relative (b ∷ c ∷ bytes) = if b == 47 then relative (slice_split (λ x. x == 47) (c ∷ bytes)) else None
