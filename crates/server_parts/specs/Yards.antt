-- How contracts see a yard: which disks lie in it, and what their files read as.
use Rattle.std.specs.Prelude.{◌≡◌, ℕ, ◌-◌, ◌<◌, ◌≤◌, List, Bool, ◌&&◌, IsTrue, IsFalse}
use Rattle.hk_base.specs.Disk.{DiskState, Only}
use Rattle.hk_base.specs.Faults.{Rose}

-- The view of a yard in proofs.
pub record YardState : Type 0 where
  -- whether a proof knows what the files hold
  pub tells : Bool
  -- whether the disk of a file lies in the yard
  pub lies : ℕ → Bool
  -- what each file reads as while its disk lies in the yard, if `tells`
  pub reads : ℕ → List ℕ
  -- the number of faults
  pub faults : ℕ

-- The disk of a file was taken; the other one is unchanged.
pub record Taken (file : ℕ) (old new : YardState) (own : DiskState) : Type 0 where
  pub tells : new.tells ≡ old.tells
  pub gone : IsFalse (new.lies file)
  pub other_lies : new.lies (1 - file) ≡ old.lies (1 - file)
  pub other_reads : IsTrue old.tells → new.reads (1 - file) ≡ old.reads (1 - file)
  pub faults : new.faults ≡ old.faults
  -- the disk is that of the file, and a crash leaves what it reads as
  pub own_tells : own.tells ≡ old.tells
  pub own_reads : IsTrue old.tells → own.reads file ≡ old.reads file
  pub own_leaves : IsTrue old.tells → Only (old.reads file) (own.leaves file)
  pub own_faults : own.faults ≡ 0

-- The disk of a file was given back; the other one is unchanged.
pub record GivenBack (file : ℕ) (old new : YardState) (own : DiskState) : Type 0 where
  pub tells : new.tells ≡ (old.tells && own.tells)
  pub back : IsTrue (new.lies file)
  pub other_lies : new.lies (1 - file) ≡ old.lies (1 - file)
  pub reads : IsTrue new.tells → new.reads file ≡ own.reads file
  pub other_reads : IsTrue new.tells → new.reads (1 - file) ≡ old.reads (1 - file)
  -- the yard's count rises exactly if that of the disk is not 0
  pub later : old.faults ≤ new.faults
  pub rose : 0 < own.faults → Rose old.faults new.faults
  pub same : own.faults ≡ 0 → new.faults ≡ old.faults

-- Nothing but the count of faults changed.
pub record OnlyFaults (old new : YardState) : Type 0 where
  pub tells : new.tells ≡ old.tells
  pub lies : (f : ℕ) → new.lies f ≡ old.lies f
  pub reads : IsTrue old.tells → (f : ℕ) → f < 2 → new.reads f ≡ old.reads f
