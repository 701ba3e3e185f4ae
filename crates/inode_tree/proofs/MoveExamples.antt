-- Moves of a few rows.
use Rattle.std.proofs.Common.{◌≡◌, ℕ, List, [], ◌∷◌, None, refl}
use Rattle.inode_tree.specs.declared.rows.Kind.TheVariants.{Dir, File}
use Rattle.inode_tree.specs.Rows.{Entry}
use Rattle.inode_tree.specs.Moves.{most_bytes, most_names, renamed}

abbrev a : List ℕ
a = 97 ∷ []

abbrev b : List ℕ
b = 98 ∷ []

abbrev dd : List ℕ
dd = 100 ∷ 100 ∷ []

abbrev directory : List (List ℕ) → ℕ → Entry
directory p id = record { path = p; row = record { id = id; kind = Dir None } }

abbrev file : List (List ℕ) → ℕ → Entry
file p id = record { path = p; row = record { id = id; kind = File None } }

-- /, /a, /a/b, /a/b/dd, /b and /dd
abbrev rows : List Entry
rows = directory [] 0 ∷ directory (a ∷ []) 1 ∷ directory (a ∷ b ∷ []) 2 ∷ file (a ∷ b ∷ dd ∷ []) 3 ∷ directory (b ∷ []) 4 ∷ file (dd ∷ []) 5 ∷ []

-- a file to a later place
one-file : renamed (a ∷ b ∷ dd ∷ []) (b ∷ a ∷ []) rows ≡ directory [] 0 ∷ directory (a ∷ []) 1 ∷ directory (a ∷ b ∷ []) 2 ∷ directory (b ∷ []) 4 ∷ file (b ∷ a ∷ []) 3 ∷ file (dd ∷ []) 5 ∷ []
one-file = refl

-- a directory with what is below it, into another directory
with-children : renamed (a ∷ []) (b ∷ dd ∷ []) rows ≡ directory [] 0 ∷ directory (b ∷ []) 4 ∷ directory (b ∷ dd ∷ []) 1 ∷ directory (b ∷ dd ∷ b ∷ []) 2 ∷ file (b ∷ dd ∷ b ∷ dd ∷ []) 3 ∷ file (dd ∷ []) 5 ∷ []
with-children = refl

-- to an earlier place
to-the-front : renamed (dd ∷ []) (a ∷ a ∷ []) rows ≡ directory [] 0 ∷ directory (a ∷ []) 1 ∷ file (a ∷ a ∷ []) 5 ∷ directory (a ∷ b ∷ []) 2 ∷ file (a ∷ b ∷ dd ∷ []) 3 ∷ directory (b ∷ []) 4 ∷ []
to-the-front = refl

-- the longest path below /a is b/dd
five-bytes : most_bytes rows (a ∷ []) ≡ 5
five-bytes = refl

two-names : most_names rows (a ∷ []) ≡ 2
two-names = refl

no-names : most_names rows (dd ∷ a ∷ []) ≡ 0
no-names = refl
