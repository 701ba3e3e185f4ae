-- A place of one world that is copied into the namesystem of another cluster.
use Rattle.std.specs.Prelude.{◌≡◌, ◌⊎◌, ◌≤◌, ℕ, List, [], ◌∷◌, ◌++◌, Some, true, count_by, Result, Ok, Err, IfOk, IsErrOf, OnErr, ⊤}
use Rattle.hk_base.specs.Disk.{DiskState, Tells}
use Rattle.hk_base.specs.Faults.{Rose}
use Rattle.frame_log.specs.declared.fault.StartFault.{StartFault}
use Rattle.backup_names.specs.Orders.{OrdersNames}
use Rattle.body_stream.specs.Vaults.{TellsBodies, VaultState}
use Rattle.file_orders.specs.Bodies.{HadBody}
use Rattle.file_orders.specs.Events.{Leading}
use Rattle.file_orders.specs.declared.ends.FsEnd.{FsEnd}
use Rattle.hk_events.specs.declared.event.Event.{Event}
use Rattle.hk_events.specs.declared.event.Line.{Line}
use Rattle.inode_tree.specs.Rows.{Entry, is_dir_at, is_marked, row_at}
use Rattle.inode_tree.specs.declared.rows.Row.{Row}
use Rattle.name_calls.specs.Paths.{read_path}
use Rattle.name_calls.specs.declared.paths.NPath.{NPath}
use Rattle.name_calls.specs.declared.read_paths.ReadPath.{ReadPath}
use Rattle.edit_ops.specs.declared.ops.EditOp.{EditOp}
use Rattle.name_core.specs.State.{IsNamesystemOf, RunningNames, service_of, started}
use Rattle.name_store.specs.Store.{IsNameLog, OpensNames}
use Rattle.name_store.specs.Table.{NameTable, next_opening}
use Rattle.place_texts.specs.Places.{read_raw_place}
use Rattle.row_copies.specs.Clusters.{CopyState, EndsFor, IsTreeOfRows}
use Rattle.row_copies.specs.Copies.{ChainOf, CopiesAll, StopsEarly, is_file}
use Rattle.row_copies.specs.Walks.{is_directory}
use Rattle.row_copies.specs.declared.walk.Copied.{Copied}
use Rattle.raw_copy.specs.declared.backup.CopyFault.{CopyFault}
use Rattle.raw_copy.specs.declared.backup.CopyFault.TheVariants.{End, Start}
use Rattle.world_desk.specs.Worlds.{IsDeskReady}
use Rattle.world_run.specs.Drives.{Standing}
use Rattle.world_run.specs.World.{world_of}
use Rattle.world_rows.specs.Rows.{IsPlace, IsReadEvent, ReadsOnce, place_rows}

-- the rows that are copied and the bodies of their files, and the namesystem that gets them with its vault
abbrev pub copy_state : List Entry → VaultState → RunningNames → VaultState → CopyState
copy_state rows vault names copies = record {
  source = record { rows = rows; bodies = vault };
  target = record { rows = names.store.table.rows; bodies = copies };
}

-- Both services of a world were only read, as the superuser: events happened that read entries and the metadata of keys. The world is as it
-- was, and no random word was drawn.
pub record OnlyRead {D W : Type 0} (state : D → DiskState) (to_come : W → ℕ → ℕ) (now : ℕ) (a b : Standing D W) : Type 0 where
  pub events : ChainOf (ReadsOnce state to_come now) a b
  pub same : world_of b.world ≡ world_of a.world
  pub rest : (k : ℕ) → to_come b.words k ≡ to_come a.words k
  pub ready : IsDeskReady state b

-- somewhere else, an event happened that only reads, or none
abbrev pub ReadsOnceIn : {Y : Type 0} → Leading Y → Y → Y → Type 0
ReadsOnceIn others y z = (z ≡ y) ⊎ ((e : Event) × (answer : Line) × IsReadEvent e × others y e answer z)

-- ---- why a copy failed

-- one of the vaults failed, or the second had a body already for a file of the copy
abbrev pub VaultsFailed : (vault vault' copies copies' : VaultState) → Type 0
VaultsFailed vault vault' copies copies' = Rose vault.faults vault'.faults ⊎ (Rose copies.faults copies'.faults ⊎ (TellsBodies vault → TellsBodies copies → HadBody copies))

-- how a copy may end that fails
abbrev pub IsCopyEnd : FsEnd → Type 0
IsCopyEnd why = EndsFor ⊤ ⊤ (λ (w : FsEnd). ⊤) why

-- Why a copy ends so. It was refused, or there was no memory; or the disk that gets the copy failed, or the vaults did. No other end comes.
abbrev pub EndsByCause : (disk disk' : DiskState) → (vault vault' copies copies' : VaultState) → FsEnd → Type 0
EndsByCause disk disk' vault vault' copies copies' why = EndsFor (Rose disk.faults disk'.faults) (VaultsFailed vault vault' copies copies') (λ (w : FsEnd). ⊤) why

-- ---- a zone by its texts

-- the rows of each place whose first row is that of a directory are a tree
abbrev pub PlacesAreTrees : NameTable → Type 0
PlacesAreTrees t = (place : ReadPath) → IsPlace place → is_dir_at (row_at (place_rows t place) []) ≡ true → IsTreeOfRows (place_rows t place)

-- What a copy works on: the namesystem that is read, the namesystem that gets the copy, and the vaults of both.
pub record Copying : Type 0 where
  pub table : NameTable
  pub vault : VaultState
  pub names : RunningNames
  pub copies : VaultState

abbrev pub copying : NameTable → VaultState → RunningNames → VaultState → Copying
copying table vault names copies = record { table = table; vault = vault; names = names; copies = copies }

abbrev pub state_at : ReadPath → Copying → CopyState
state_at place c = copy_state (place_rows c.table place) c.vault c.names c.copies

-- the two texts are those of a place and of a path
pub record AreTexts (from to : List ℕ) (place : ReadPath) (path : NPath) : Type 0 where
  pub place_is : read_raw_place from ≡ Some place
  pub path_is : read_path to ≡ Some path

-- The place is that of an encryption zone. All its rows were copied to the path, with the bodies of their files, and counted.
pub record CopiesPlace (place : ReadPath) (path : NPath) (counts : Copied) (old new : Copying) : Type 0 where
  pub all : CopiesAll path (state_at place old) (state_at place new)
  pub files : counts.files ≡ count_by is_file (place_rows old.table place)
  pub directories : counts.directories ≡ count_by is_directory (place_rows old.table place)
  pub zone : (row : Row) × (row_at (place_rows old.table place) [] ≡ Some row) × (is_marked row ≡ true)

-- the same by the texts of both
pub record CopiesZone (from to : List ℕ) (counts : Copied) (old new : Copying) : Type 0 where
  pub place : ReadPath
  pub path : NPath
  pub texts : AreTexts from to place path
  pub copies : CopiesPlace place path counts old new

-- a prefix of the rows was copied, each file with its whole body
pub record CopiesZonePart (from to : List ℕ) (old new : Copying) : Type 0 where
  pub place : ReadPath
  pub path : NPath
  pub texts : AreTexts from to place path
  pub part : StopsEarly path (state_at place old) (state_at place new)

-- nothing of the cluster that gets the copy was changed
pub record CopiesNothing (old new : Copying) : Type 0 where
  pub vault : new.vault ≡ old.vault
  pub names : new.names ≡ old.names
  pub copies : new.copies ≡ old.copies

abbrev pub StopsPlace : ReadPath → NPath → Copying → Copying → Type 0
StopsPlace place path old new = StopsEarly path (state_at place old) (state_at place new) ⊎ CopiesNothing old new

abbrev pub StopsZone : List ℕ → List ℕ → Copying → Copying → Type 0
StopsZone from to old new = CopiesZonePart from to old new ⊎ CopiesNothing old new

-- ---- over the disk of the other cluster

abbrev pub copied_or : Result Copied FsEnd → Result Copied CopyFault
copied_or (Ok counts) = Ok counts
copied_or (Err why) = Err (End why)

-- From this namesystem on, a zone was copied, or a prefix of it. `left` is the namesystem in the end.
pub record CopiesFrom (from to : List ℕ) (result : Result Copied CopyFault) (t t' : NameTable) (vault vault' copies copies' : VaultState) (disk disk' : DiskState) (names : RunningNames) : Type 0 where
  pub left : RunningNames
  pub orders : OrdersNames disk disk' names left
  pub copied : IfOk result (λ counts. CopiesZone from to counts (copying t vault names copies) (copying t' vault' left copies'))
  pub stopped : OnErr result (StopsZone from to (copying t vault names copies) (copying t' vault' left copies'))

-- The edit log was opened, and a zone was copied from the namesystem on that it has. The log then holds the operations that were found, the
-- opening, and those of the copy.
pub record CopiesOpened (batch : ℕ) (from to : List ℕ) (result : Result Copied CopyFault) (t t' : NameTable) (vault vault' copies copies' : VaultState) (disk disk' : DiskState) : Type 0 where
  pub found : NameTable
  pub names : RunningNames
  pub left : RunningNames
  pub opens : service_of names ≡ started batch found
  pub logged : List EditOp
  pub log : Tells disk → (ops : List EditOp) × (used : List ℕ) × IsNameLog (disk.reads 1) ops (record { table = found; used = used }) × IsNamesystemOf disk' left ((ops ++ (next_opening found ∷ [])) ++ logged)
  pub tells : disk'.tells ≡ disk.tells
  pub faults : disk.faults ≤ disk'.faults
  pub copied : IfOk result (λ counts. CopiesZone from to counts (copying t vault names copies) (copying t' vault' left copies'))
  pub stopped : OnErr result (StopsZone from to (copying t vault names copies) (copying t' vault' left copies'))
  -- it does not end as if the log had not been opened
  pub begun : (fault : StartFault) → result ≡ Err (Start fault) → ⊥

abbrev pub not_started : StartFault → Result RunningNames StartFault
not_started fault = Err fault

-- The edit log could not be opened, and nothing else was done.
pub record CannotOpenBackup (result : Result Copied CopyFault) (t t' : NameTable) (vault vault' copies copies' : VaultState) (disk disk' : DiskState) : Type 0 where
  pub fault : StartFault
  pub result_is : result ≡ Err (Start fault)
  pub opens : OpensNames disk disk' (IsErrOf (not_started fault))
  pub same_table : t' ≡ t
  pub same_vault : vault' ≡ vault
  pub same_copies : copies' ≡ copies

abbrev pub CopiesOver : (batch : ℕ) (from to : List ℕ) (result : Result Copied CopyFault) (t t' : NameTable) (vault vault' copies copies' : VaultState) (disk disk' : DiskState) → Type 0
CopiesOver batch from to result t t' vault vault' copies copies' disk disk' = CannotOpenBackup result t t' vault vault' copies copies' disk disk' ⊎ CopiesOpened batch from to result t t' vault vault' copies copies' disk disk'
