-- What the start of a store over a log does, whatever it returns.
use Rattle.std.specs.Prelude.{◌≡◌, ◌⊎◌, ℕ, List, Result, IsErrOf}
use Rattle.hk_base.specs.Disk.{DiskState, Tells, RunOn, LeavesOnly}
use Rattle.hk_base.specs.Faults.{Rose}
use Rattle.frame_log.specs.Faults.{start_fault}
use Rattle.frame_log.specs.Format.{log_of, NoLog, IsRecovered}
use Rattle.frame_log.specs.Stands.{LeavesFrom}
use Rattle.frame_log.specs.declared.fault.LogFault.{LogFault}
use Rattle.frame_log.specs.declared.fault.StartFault.{StartFault}
use Rattle.frame_log.specs.declared.fault.StartFault.TheVariants as start

-- Why a start fails: `fails` says with which fault, `Damage` where a file is damaged, and `Used` that its openings are used up.
pub record FailsFor (file : ℕ) (Damage : List ℕ → ℕ → Type 0) (Used : List ℕ → Type 0) (old new : DiskState) (fails : StartFault → Type 0) : Type 0 where
  pub damaged : (at : ℕ) → fails (start.Damaged at) → Tells old → Damage (old.reads file) at
  pub spent : fails start.Spent → Tells old → Used (old.reads file)
  pub cause : fails start.StoreFault → Rose old.faults new.faults

-- A start opens the log of a file, or fails. `Left` says what it leaves of the bytes found.
pub record OpensLog (file : ℕ) (Damage : List ℕ → ℕ → Type 0) (Used : List ℕ → Type 0) (Left : List ℕ → List ℕ → Type 0) (old new : DiskState) (fails : StartFault → Type 0) : Type 0 where
  pub why : FailsFor file Damage Used old new fails
  -- a crash at any moment leaves what it might have left before, or what the start leaves
  pub any_moment : Tells old → LeavesOnly file old new (λ c. old.leaves file c ⊎ Left (old.reads file) c)
  -- whatever the result, after the first sync of the start a crash leaves the latter alone; if that sync failed, nothing was written
  pub since_sync : Tells old → (fails start.StoreFault × LeavesOnly file old new (old.leaves file)) ⊎ LeavesFrom file old new (Left (old.reads file))
  pub run : RunOn file old new

-- a call of a log failed, with this fault of a start over it
abbrev pub FailsAs : {T : Type 0} → Result T LogFault → StartFault → Type 0
FailsAs result fault = (why : LogFault) × IsErrOf result why × (start_fault why ≡ fault)

-- A recovery opens the log alone: the file is damaged only if it is not a log, and no opening is recorded.
abbrev pub RecoversLog : ℕ → DiskState → DiskState → (StartFault → Type 0) → Type 0
RecoversLog file = OpensLog file (λ bytes at. log_of file bytes ≡ NoLog at) (λ bytes. ⊥) (IsRecovered file)
