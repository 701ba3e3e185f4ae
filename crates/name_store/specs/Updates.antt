-- The files of an update as the rows have them.
use Rattle.std.specs.Prelude.{◌≡◌, false, List, Some}
use Rattle.std.specs.List.{AllByRecursion}
use Rattle.std.specs.Option.{option_map}
use Rattle.edit_ops.specs.declared.files.FileKey.{FileKey}
use Rattle.inode_tree.specs.Rows.{Entry, entry_of, is_dir}

-- the row of the id is a file
abbrev pub IsFileRow : List Entry → FileKey → Type 0
IsFileRow rows f = option_map (λ e. is_dir e.row.kind) (entry_of rows f.id) ≡ Some false

abbrev pub AreFiles : List Entry → List FileKey → Type 0
AreFiles rows files = AllByRecursion (IsFileRow rows) files
