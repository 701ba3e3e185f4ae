-- The children of a directory.
use Rattle.std.specs.Prelude.{ℕ, List, map}
use Rattle.std.specs.List.{filter}
use Rattle.name_calls.specs.declared.listing.Child.{Child}
use Rattle.name_calls.specs.Paths.{is_child, last_name}
use Rattle.inode_tree.specs.Rows.{Entry, is_dir}

abbrev pub child_of : Entry → Child
child_of e = record { name = last_name e.path; directory = is_dir e.row.kind }

-- the children of a directory, in the order of the rows
abbrev pub children : List Entry → List (List ℕ) → List Child
children rows p = map child_of (filter (λ e. is_child p e.path) rows)
