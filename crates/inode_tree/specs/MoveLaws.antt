-- Properties of rows that move.
use Rattle.std.specs.Prelude.{◌≡◌, ℕ, true, List, ◌++◌, length, drop, Option, None, option_map, if◌then◌else◌}
use Rattle.name_calls.specs.Paths.{is_prefix, is_relative}
use Rattle.inode_tree.specs.declared.rows.Row.{Row}
use Rattle.inode_tree.specs.Moves.{CanMove, moved, renamed}
use Rattle.inode_tree.specs.Rows.{Entry, IsRows, entry_of, row_at}

-- what is at a path after the move
abbrev pub row_after : List (List ℕ) → List (List ℕ) → List Entry → List (List ℕ) → Option Row
row_after p q rows r = if is_prefix q r then row_at rows (p ++ drop (length q) r) else if is_prefix p r then None else row_at rows r

-- at q and below it is what was at p and below it, there is nothing now, and all other paths keep their rows
abbrev pub MovesAll : Type 0
MovesAll = (rows : List Entry) (p q r : List (List ℕ)) → IsRows rows → CanMove rows p q → row_at (renamed p q rows) r ≡ row_after p q rows r

-- each id keeps its row
abbrev pub KeepsIds : Type 0
KeepsIds = (rows : List Entry) (p q : List (List ℕ)) (id : ℕ) → IsRows rows → CanMove rows p q → entry_of (renamed p q rows) id ≡ option_map (moved p q) (entry_of rows id)

-- the rows stay those of a tree
abbrev pub KeepsRules : Type 0
KeepsRules = (rows : List Entry) (p q : List (List ℕ)) → IsRows rows → CanMove rows p q → is_relative q ≡ true → IsRows (renamed p q rows)
