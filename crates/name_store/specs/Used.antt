-- The ids that no operation may use again.
use Rattle.std.specs.Prelude.{◌≡◌, ℕ, ◌<◌, true, ◌||◌, List, None}
use Rattle.std.specs.Bool.{nat_eq}
use Rattle.std.specs.HashSet.{contains}
use Rattle.std.specs.List.{All, AllByRecursion}
use Rattle.inode_tree.specs.Rows.{Entry, entry_of}
use Rattle.edit_ops.specs.declared.ops.EditOp.{EditOp}
use Rattle.name_store.specs.declared.used.UsedIds.{UsedIds}
use Rattle.name_store.specs.Replay.{Ids}
use Rattle.name_store.specs.Runs.{is_in_runs}
use Rattle.name_store.specs.Table.{NameTable, uses}

-- whether the id was used
abbrev pub is_used : UsedIds → Ids
is_used used id = is_in_runs used.runs id || contains nat_eq used.strays id

-- each row has a used id, except for the root, whose id is 0
abbrev pub RowsUsed : NameTable → Ids → Type 0
RowsUsed t used = All (λ (e : Entry). 0 < e.row.id → used e.row.id ≡ true) t.rows

-- no row other than the root has an id that the operation uses
abbrev pub HasFreeIds : List Entry → EditOp → Type 0
HasFreeIds rows op = AllByRecursion (λ (id : ℕ). 0 < id → entry_of rows id ≡ None) (uses op)
