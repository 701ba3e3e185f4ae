-- Opening both logs, each on the disk that a yard gives for it.
use Rattle.std.specs.Prelude.{◌≡◌, ◌≤◌, ◌⊎◌, ℕ, ⊤, IsTrue, List, [], ◌∷◌, ◌++◌, None}
use Rattle.hk_base.specs.Disk.{DiskState}
use Rattle.hk_base.specs.Faults.{Rose}
use Rattle.frame_log.specs.declared.fault.StartFault.{StartFault}
use Rattle.frame_log.specs.declared.fault.StartFault.TheVariants as start
use Rattle.key_rows.specs.Table.{Table, after}
use Rattle.key_rows.specs.declared.rows.KeyCommand.{KeyCommand}
use Rattle.kms_store.specs.Store as keys
use Rattle.name_store.specs.Store as names
use Rattle.kms_core.specs.Service.{Starts as KeysStart}
use Rattle.kms_core.specs.State.{no_queues}
use Rattle.kms_core.specs.Users.{RunningKms, running}
use Rattle.name_core.specs.Service.{Starts as NamesStart}
use Rattle.name_core.specs.State.{RunningNames}
use Rattle.server_parts.specs.Yards.{Taken, YardState}
use Rattle.prop_text.specs.declared.props.Props.{Props}
use Rattle.prop_text.specs.SizeValues.{SizeValues}
use Rattle.kms_acls.specs.Agreement.{AreListsOf}
use Rattle.kms_acls.specs.Lists.{Lists}
use Rattle.server_run.specs.declared.opening.OpenFault.{OpenFault}
use Rattle.server_run.specs.declared.opening.OpenFault.TheVariants as open_fault
use Rattle.kms_cell.specs.Views.{KmsView}

-- The disk of the key log was taken, and the service was started on it.
pub record KeysOpened {D : Type 0} (state : D → DiskState) (old new : YardState) (disk : D) (kms : RunningKms) : Type 0 where
  pub first : D
  pub taken : Taken 0 old new (state first)
  pub tells : (state disk).tells ≡ (state first).tells
  pub starts : KeysStart (state first) (state disk) (running kms)
  -- the log is on file 0
  pub file : kms.store.log.file ≡ 0

-- The disk of the edit log was taken, and the namesystem was started on it. Its batches have at most this number of files.
pub record NamesOpened {D : Type 0} (state : D → DiskState) (batch : ℕ) (old new : YardState) (disk : D) (names : RunningNames) : Type 0 where
  pub first : D
  pub taken : Taken 1 old new (state first)
  pub tells : (state disk).tells ≡ (state first).tells
  pub starts : NamesStart batch (state first) (state disk) names

-- Why a log wasn't opened. `damaged` and `spent` say when the bytes of its file are.
abbrev pub HasStartCause : (damaged : ℕ → Type 0) → (spent : Type 0) → YardState → YardState → StartFault → Type 0
HasStartCause damaged spent old new (start.Damaged at) = IsTrue old.tells → damaged at
HasStartCause damaged spent old new start.Spent = IsTrue old.tells → spent
HasStartCause damaged spent old new start.StoreFault = Rose old.faults new.faults
HasStartCause damaged spent old new start.NoMemory = ⊤

-- A log wasn't opened, and its disk lies in the yard. If the yard tells, the file reads as `left` says of what was found: as before, or as a
-- start leaves it. The other disk is where it was, and its file reads as before.
pub record NotOpened (file other : ℕ) (damaged : List ℕ → ℕ → Type 0) (spent : List ℕ → Type 0) (left : List ℕ → List ℕ → Type 0) (old new : YardState) (fault : StartFault) : Type 0 where
  pub tells : new.tells ≡ old.tells
  pub back : IsTrue (new.lies file)
  pub other_lies : new.lies other ≡ old.lies other
  pub later : old.faults ≤ new.faults
  pub cause : HasStartCause (damaged (old.reads file)) (spent (old.reads file)) old new fault
  pub reads : IsTrue old.tells → left (old.reads file) (new.reads file)
  pub other_reads : IsTrue old.tells → new.reads other ≡ old.reads other

abbrev pub KeysNotOpened : YardState → YardState → StartFault → Type 0
KeysNotOpened = NotOpened 0 1 keys.IsDamagedAt keys.SpentKeys keys.IsLeftByStart

abbrev pub NamesNotOpened : YardState → YardState → StartFault → Type 0
NamesNotOpened = NotOpened 1 0 names.IsDamagedAt names.SpentNames names.IsLeftByStart

-- the key log that was found, at rest, and with the record of its new opening
pub record HasNewOpening (found bytes : List ℕ) : Type 0 where
  pub commands : List KeyCommand
  pub table : Table
  pub log : keys.IsKeyLog found commands table
  pub opened : keys.IsSoundLog bytes (commands ++ keys.next_opening table ∷ []) None (after table (keys.next_opening table))

-- The key log was opened, and then the edit log couldn't be. If the yard tells, the key log has its new opening and is otherwise as it was
-- found, and the edit log is what a start leaves of it.
pub record OnlyKeysOpened (old new : YardState) (fault : StartFault) : Type 0 where
  pub cause : HasStartCause (names.IsDamagedAt (old.reads 1)) (names.SpentNames (old.reads 1)) old new fault
  pub keys_read : IsTrue old.tells → HasNewOpening (old.reads 0) (new.reads 0)
  pub names_read : IsTrue old.tells → names.IsLeftByStart (old.reads 1) (new.reads 1)

-- Neither log is open, and both disks lie in the yard. The log of this file is the first that couldn't be opened: if it is the key log, the
-- edit log wasn't touched.
pub record NoneOpened (old new : YardState) (file : ℕ) (fault : StartFault) : Type 0 where
  pub tells : new.tells ≡ old.tells
  pub keys_back : IsTrue (new.lies 0)
  pub names_back : IsTrue (new.lies 1)
  pub later : old.faults ≤ new.faults
  pub first : ((file ≡ 0) × KeysNotOpened old new fault) ⊎ ((file ≡ 1) × OnlyKeysOpened old new fault)

-- Why the services weren't opened. `memory` says what was done if allocation failed.
abbrev pub LogFails : (memory : Type 0) → YardState → YardState → OpenFault → Type 0
LogFails memory old new (open_fault.Log file fault) = NoneOpened old new file fault
LogFails memory old new open_fault.NoMemory = memory

-- Both services were started, each on its own disk, with these lists and sizes.
pub record LogsOpened {D : Type 0} (state : D → DiskState) (lists : Lists) (sizes : SizeValues) (old new : YardState) (keys_disk : D) (kms : RunningKms) (names_disk : D) (names : RunningNames) : Type 0 where
  pub mid : YardState
  pub keys_opened : KeysOpened state old mid keys_disk kms
  pub lists_are : kms.acls ≡ lists
  pub queues : kms.ready ≡ no_queues sizes
  pub names_opened : NamesOpened state sizes.batch mid new names_disk names

-- The same, with the lists and the sizes of properties. The key management service draws from these words.
pub record BothOpened {D W : Type 0} (state : D → DiskState) (props : Props) (old new : YardState) (words : W) (k : KmsView D W) (names : RunningNames) (names_disk : D) : Type 0 where
  pub lists : AreListsOf k.kms.acls props.lines
  pub logs : LogsOpened state k.kms.acls props.sizes old new k.disk k.kms names_disk names
  pub words_are : k.words ≡ words

-- Both services were started, but the disks are gone with them.
pub record OpenedInVain {D : Type 0} (state : D → DiskState) (props : Props) (old new : YardState) : Type 0 where
  pub lists : Lists
  pub lists_are : AreListsOf lists props.lines
  pub keys_disk : D
  pub kms : RunningKms
  pub names_disk : D
  pub running_names : RunningNames
  pub logs : LogsOpened state lists props.sizes old new keys_disk kms names_disk running_names

-- Allocation failed: either before a disk was taken, or after both services were started.
abbrev pub LacksMemory : {D : Type 0} → (D → DiskState) → Props → YardState → YardState → Type 0
LacksMemory state props old new = (new ≡ old) ⊎ OpenedInVain state props old new
