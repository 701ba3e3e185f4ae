-- Rows that move to another path.
use Rattle.std.specs.Prelude.{◌≡◌, ◌+◌, ◌&&◌, max, nat_le, ℕ, Bool, true, false, List, [], ◌∷◌, ◌++◌, length, map, drop, None, is_some, if◌then◌else◌}
use Rattle.name_calls.specs.Paths.{is_prefix, names_text, parent}
use Rattle.inode_tree.specs.Below.{rows_below}
use Rattle.inode_tree.specs.Rows.{Entry, is_dir_at, put, row_at}

-- a path after what is at p and below it has moved to q
abbrev pub moved_path : List (List ℕ) → List (List ℕ) → List (List ℕ) → List (List ℕ)
moved_path p q r = if is_prefix p r then q ++ drop (length p) r else r

abbrev pub moved : List (List ℕ) → List (List ℕ) → Entry → Entry
moved p q e = record e { path = moved_path p q e.path }

-- the rows put into path order
abbrev pub in_order : List Entry → List Entry
in_order [] = []
in_order (e ∷ es) = put e (in_order es)

-- the rows after those at p and below it have moved to q: only their paths change
abbrev pub renamed : List (List ℕ) → List (List ℕ) → List Entry → List Entry
renamed p q rows = in_order (map (moved p q) rows)

abbrev pub greatest : List ℕ → ℕ
greatest [] = 0
greatest (n ∷ ns) = max n (greatest ns)

-- the most bytes in the text form of a path from p to a row below it
abbrev pub most_bytes : List Entry → List (List ℕ) → ℕ
most_bytes rows p = greatest (map (λ e. length (names_text e.path)) (rows_below rows p))

-- the most names of a path from p to a row below it
abbrev pub most_names : List Entry → List (List ℕ) → ℕ
most_names rows p = greatest (map (λ e. length e.path) (rows_below rows p))

-- each path at p and below it keeps the rule of lengths after it has moved to q
abbrev pub move_fits : List Entry → List (List ℕ) → List (List ℕ) → Bool
move_fits rows p q = nat_le (length (names_text q) + most_bytes rows p) 8000 && nat_le (length q + most_names rows p) 100

-- what is at p and below it may move to q
pub record CanMove (rows : List Entry) (p q : List (List ℕ)) : Type 0 where
  -- there is a row at p
  pub stands : is_some (row_at rows p) ≡ true
  -- the parent of q is a directory
  pub housed : is_dir_at (row_at rows (parent q)) ≡ true
  -- there is no row at q
  pub absent : row_at rows q ≡ None
  -- q is not p, and not below it
  pub apart : is_prefix p q ≡ false
  pub fits : move_fits rows p q ≡ true
