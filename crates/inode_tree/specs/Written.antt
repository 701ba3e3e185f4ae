-- Paths as bytes.
use Rattle.std.specs.Prelude.{ℕ, ◌-◌, List, [], ◌∷◌, ◌++◌, length, drop}

-- each name after the number of its bytes
abbrev pub path_bytes : List (List ℕ) → List ℕ
path_bytes [] = []
path_bytes (x ∷ p) = length x ∷ x ++ path_bytes p

-- the bytes of the last names of a path
abbrev pub last_bytes : ℕ → List (List ℕ) → List ℕ
last_bytes count p = path_bytes (drop (length p - count) p)
