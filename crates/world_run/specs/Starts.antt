-- What a start of both services does, done or not.
use Rattle.std.specs.Prelude.{◌≡◌, ◌⊎◌, ◌<◌, ℕ, List, [], ◌∷◌, ◌++◌, None}
use Rattle.hk_base.specs.Disk.{DiskState, LeavesOnly, RunOn, Tells}
use Rattle.frame_log.specs.Opens.{FailsFor}
use Rattle.frame_log.specs.Stands.{LeavesFrom}
use Rattle.frame_log.specs.declared.fault.StartFault.{StartFault}
use Rattle.frame_log.specs.declared.fault.StartFault.TheVariants as start
use Rattle.key_rows.specs.declared.rows.KeyCommand.{KeyCommand}
use Rattle.key_rows.specs.Table.{Table, after}
use Rattle.kms_store.specs.Store.{IsDamagedAt, IsKeyLog, IsLeftByStart, IsSoundLog, SpentKeys, next_opening}
use Rattle.name_store.specs.Store.{IsDamagedAt as IsDamagedName, IsLeftByStart as IsLeftByNameStart, SpentNames}
use Rattle.world_run.specs.Acknowledged.{LeavesBoth, RunBoth}
use Rattle.world_run.specs.Keeps.{LeftByStarts}

-- The key log was found good and opened: the commands found and the new opening are acknowledged, and each crash leaves them in the
-- file.
pub record KeyLogOpened (old new : DiskState) : Type 0 where
  pub commands : List KeyCommand
  pub table : Table
  pub log : IsKeyLog (old.reads 0) commands table
  pub room : table.opening < 4294967295
  pub left : (bytes : List ℕ) → new.leaves 0 bytes → IsSoundLog bytes (commands ++ next_opening table ∷ []) None (after table (next_opening table))

-- only at this file, and with this fault
abbrev pub FailsAt : ℕ → StartFault → ℕ → StartFault → Type 0
FailsAt file fault other_file other = (file ≡ other_file) × (fault ≡ other)

-- A start opens both logs, or fails: `fails` says at which file, and with which fault. That is the first file that has one. If it is
-- the second file, the first was found to be a key log and opened; if it is the first, the second was not touched.
pub record OpensBoth (old new : DiskState) (fails : ℕ → StartFault → Type 0) : Type 0 where
  pub file : (file : ℕ) (fault : StartFault) → fails file fault → (file ≡ 0) ⊎ (file ≡ 1)
  pub keys : FailsFor 0 IsDamagedAt SpentKeys old new (fails 0)
  pub names : FailsFor 1 IsDamagedName SpentNames old new (fails 1)
  pub first_keys : (fault : StartFault) → fails 1 fault → Tells old → KeyLogOpened old new
  pub first_names : (fault : StartFault) → fails 0 fault → RunOn 0 old new
  -- A crash at any moment leaves what it might have left before, or files on the way: first the key log is opened, and then the edit
  -- log. If a run may start from every image before, with a ledger, it may start from every image since.
  pub any_moment : Tells old → LeavesBoth old new (LeftByStarts old)
  -- Since the first sync of its opening, a crash leaves of each file the latter alone, whatever the result. If that sync failed, or
  -- the opening wasn't reached, nothing was written to the file, and a crash leaves of it what it might have left before.
  pub since_sync_keys : Tells old → ((fails 0 start.StoreFault ⊎ fails 0 start.NoMemory) × LeavesOnly 0 old new (old.leaves 0)) ⊎ LeavesFrom 0 old new (IsLeftByStart (old.reads 0))
  pub since_sync_names : Tells old → ((((fault : StartFault) × fails 0 fault) ⊎ fails 1 start.StoreFault) × LeavesBoth old new (λ c. old.leaves 1 (c 1))) ⊎ LeavesFrom 1 old new (IsLeftByNameStart (old.reads 1))
  pub run : RunBoth old new
