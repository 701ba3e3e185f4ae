-- The changes of the table that a copy makes: directories, zones and files.
use Rattle.std.specs.Prelude.{◌≡◌, ℕ, true, false, Option, None, Some, Result, Ok, Err}
use Rattle.hk_base.specs.declared.names.Edek.{Edek}
use Rattle.hk_base.specs.declared.names.KeyName.{KeyName}
use Rattle.name_calls.specs.Paths.{parent}
use Rattle.name_calls.specs.declared.paths.NPath.{NPath}
use Rattle.name_calls.specs.declared.calls.Ask.{Ask}
use Rattle.name_calls.specs.declared.calls.Ask.TheVariants as ask
use Rattle.inode_tree.specs.declared.rows.Kind.TheVariants.{Dir}
use Rattle.inode_tree.specs.Rows.{entry_of, has_children, is_dir_at, put, row_at, set_kind}
use Rattle.name_store.specs.Table.{NameTable, new_directory, new_file}
use Rattle.name_core.specs.declared.asks.OpenAsk.{OpenAsk}
use Rattle.name_core.specs.Asks.{open_ask}
use Rattle.name_core.specs.State.{RunningNames}
use Rattle.file_orders.specs.declared.ends.FsEnd.{FsEnd}
use Rattle.backup_names.specs.Orders.{IsSettled}

-- A directory without a key is made at the path, under an id that no row had. Nothing else of the table changes.
pub record MakesDirectory (path : NPath) (old new : NameTable) : Type 0 where
  pub id : ℕ
  pub free : entry_of old.rows id ≡ None
  pub house : is_dir_at (row_at old.rows (parent path)) ≡ true
  pub absent : row_at old.rows path ≡ None
  pub made : new ≡ record old { rows = put (new_directory id path) old.rows }

-- The directory at the path, which was empty and had no key, becomes a zone of the key. Nothing else of the table changes.
pub record MarksDirectory (path : NPath) (key : KeyName) (old new : NameTable) : Type 0 where
  pub id : ℕ
  pub was : row_at old.rows path ≡ Some (record { id = id; kind = Dir None })
  pub empty : has_children old.rows path ≡ false
  pub made : new ≡ record old { rows = set_kind old.rows id (Dir (Some key)) }

-- A file is made at the path, under this id, which no row had, with this encrypted key or none. Nothing else of the table changes.
pub record MakesFile (id : ℕ) (path : NPath) (edek : Option Edek) (old new : NameTable) : Type 0 where
  pub free : entry_of old.rows id ≡ None
  pub house : is_dir_at (row_at old.rows (parent path)) ≡ true
  pub absent : row_at old.rows path ≡ None
  pub made : new ≡ record old { rows = put (new_file id path edek) old.rows }

-- this ask is open under the id, which no row has
pub record IsAsked (a : Ask) (r : RunningNames) (id : ℕ) : Type 0 where
  pub asked : OpenAsk
  pub found : open_ask r.asks id ≡ Some asked
  pub is : asked.ask ≡ a
  pub free : entry_of r.store.table.rows id ≡ None

-- the ask of this id, if it is for a zone, makes its directory a zone
abbrev pub FinishesZone : ℕ → RunningNames → NameTable → NameTable → Type 0
FinishesZone id r old new = (path : NPath) (key : KeyName) → IsAsked (ask.Zone path key) r id → MarksDirectory path key old new

-- the ask of this id, if it is for a file, makes the file with this encrypted key
abbrev pub FinishesFile : ℕ → Option Edek → RunningNames → NameTable → NameTable → Type 0
FinishesFile id edek r old new = (path : NPath) → IsAsked (ask.Create path) r id → MakesFile id path edek old new

-- A change was done, and no operation is pending; or it was not, and the table is as before.
abbrev pub ChangesTable : Result (Unit {0}) FsEnd → (NameTable → NameTable → Type 0) → RunningNames → RunningNames → Type 0
ChangesTable (Ok done) change r r' = change r.store.table r'.store.table × IsSettled r'
ChangesTable (Err why) change r r' = r'.store.table ≡ r.store.table
