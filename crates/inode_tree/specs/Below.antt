-- The rows at and below a directory.
use Rattle.std.specs.Prelude.{ℕ, Bool, false, List, length, map, drop}
use Rattle.std.specs.List.{filter}
use Rattle.std.specs.Option.{option_map_or}
use Rattle.name_calls.specs.Paths.{is_prefix, last_name}
use Rattle.inode_tree.specs.declared.rows.Row.{Row}
use Rattle.inode_tree.specs.Rows.{Entry, entry_of}

-- the path of the row that has the id is the path or is below it
abbrev pub at_or_below : List Entry → ℕ → List (List ℕ) → Bool
at_or_below rows id p = option_map_or (λ e. is_prefix p e.path) (entry_of rows id) false

-- the path of the row that has the id is the path or leads to it
abbrev pub at_or_above : List Entry → ℕ → List (List ℕ) → Bool
at_or_above rows id p = option_map_or (λ e. is_prefix e.path p) (entry_of rows id) false

-- a row as it is seen from a directory whose path has n names
abbrev pub seen_from : ℕ → Entry → Entry
seen_from n e = record e { path = drop n e.path }

-- the rows at and below a directory, as they are seen from it
abbrev pub rows_below : List Entry → List (List ℕ) → List Entry
rows_below rows p = map (seen_from (length p)) (filter (λ e. is_prefix p e.path) rows)

-- what a walk over rows reads of one: the number of names in its path, the last of these names, and the row
pub record RowView : Type 0 where
  pub depth : ℕ
  pub name : List ℕ
  pub row : Row

abbrev pub view_of : Entry → RowView
view_of e = record { depth = length e.path; name = last_name e.path; row = e.row }
