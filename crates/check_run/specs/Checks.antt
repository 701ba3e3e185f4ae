-- What a check finds in both files, and what it writes.
use Rattle.std.specs.Prelude.{◌≡◌, ◌⊎◌, ⊤, ℕ, List, Option}
use Rattle.hk_base.specs.Disk.{DiskState, Tells}
use Rattle.hk_base.specs.Faults.{Rose}
use Rattle.command_io.specs.Ends.{Reports, ShowsWith, ended_by}
use Rattle.command_io.specs.declared.ends.ReplayEnd.{ReplayEnd}
use Rattle.command_io.specs.declared.ends.ReplayEnd.TheVariants as replay_end
use Rattle.frame_log.specs.declared.fault.StartFault.{StartFault}
use Rattle.frame_log.specs.declared.fault.StartFault.TheVariants as start_fault
use Rattle.edit_ops.specs.declared.ops.EditOp.{EditOp}
use Rattle.key_rows.specs.declared.rows.KeyCommand.{KeyCommand}
use Rattle.key_rows.specs.Table.{Table}
use Rattle.kms_store.specs.Store.{IsKeyLog, SpentKeys}
use Rattle.kms_store.specs.Store as key_log
use Rattle.name_store.specs.Store.{IsNameLog, SpentNames}
use Rattle.name_store.specs.Store as edit_log
use Rattle.name_store.specs.Table.{Replayed}
use Rattle.check_run.specs.Summary.{check_text}

-- The bytes of the files 0 and 1 are a key log and an edit log, and this is the text of the tables that they make.
pub record SumsUp (found : ℕ → List ℕ) (text : List ℕ) : Type 0 where
  pub commands : List KeyCommand
  pub table : Table
  pub ops : List EditOp
  pub made : Replayed
  pub keys : IsKeyLog (found 0) commands table
  pub names : IsNameLog (found 1) ops made
  pub text_is : text ≡ check_text table made.table

-- the same of the edit log alone, beside a table of keys
pub record SumsUpNames (table : Table) (bytes text : List ℕ) : Type 0 where
  pub ops : List EditOp
  pub made : Replayed
  pub names : IsNameLog bytes ops made
  pub text_is : text ≡ check_text table made.table

-- how a command ends if the log of a file in memory cannot be opened: such a disk fails only for want of memory
abbrev pub ended_in_memory : ℕ → StartFault → ReplayEnd
ended_in_memory file start_fault.StoreFault = replay_end.NoMemory
ended_in_memory file fault = ended_by file fault

-- the bytes are a key log, whatever it makes
pub record IsAnyKeyLog (bytes : List ℕ) : Type 0 where
  pub commands : List KeyCommand
  pub table : Table
  pub log : IsKeyLog bytes commands table

-- why the bytes of the files are not summed up: the fault of the key log, or that of the edit log beside a key log
abbrev pub IsUnsummed : (ℕ → List ℕ) → ReplayEnd → Type 0
IsUnsummed found (replay_end.DamagedKeys at) = key_log.IsDamagedAt (found 0) at
IsUnsummed found (replay_end.DamagedNames at) = IsAnyKeyLog (found 0) × edit_log.IsDamagedAt (found 1) at
IsUnsummed found replay_end.Spent = SpentKeys (found 0) ⊎ (IsAnyKeyLog (found 0) × SpentNames (found 1))
IsUnsummed found replay_end.NoMemory = ⊤
IsUnsummed found _ = ⊥

-- the same of the edit log alone
abbrev pub IsUnsummedNames : List ℕ → ReplayEnd → Type 0
IsUnsummedNames bytes (replay_end.DamagedNames at) = edit_log.IsDamagedAt bytes at
IsUnsummedNames bytes replay_end.Spent = SpentNames bytes
IsUnsummedNames bytes replay_end.NoMemory = ⊤
IsUnsummedNames bytes _ = ⊥

-- the statuses that a check may have
abbrev pub IsCheckStatus : ℕ → Type 0
IsCheckStatus status = (status ≡ 0) ⊎ ((status ≡ 4) ⊎ ((status ≡ 5) ⊎ ((status ≡ 6) ⊎ ((status ≡ 8) ⊎ (status ≡ 10)))))

-- the bytes that were read of both files are those that they hold
abbrev pub AreBytesOf : DiskState → (ℕ → List ℕ) → Type 0
AreBytesOf disk found = Tells disk → (found 0 ≡ disk.reads 0) × (found 1 ≡ disk.reads 1)

module _ (written now : Option (List ℕ)) (status : ℕ) where
  -- the text of the tables is written, or the last line of the cause for which there is none
  abbrev pub ReportsFound : (ℕ → List ℕ) → Type 0
  ReportsFound found =
      ((text : List ℕ) × SumsUp found text × ShowsWith text 0 written now status) ⊎ ((end : ReplayEnd) × IsUnsummed found end × Reports end written now status)

  -- Both files are read, and what they hold is reported. Or a file cannot be read, or there is no memory for what it holds.
  abbrev pub Checks : DiskState → DiskState → Type 0
  Checks old new =
      ((found : ℕ → List ℕ) × AreBytesOf old found × ReportsFound found)
      ⊎ ((Reports replay_end.StoreFault written now status × Rose old.faults new.faults) ⊎ Reports replay_end.NoMemory written now status)
