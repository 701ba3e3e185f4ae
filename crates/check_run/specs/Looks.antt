-- A disk that is only read.
use Rattle.std.specs.Prelude.{◌≡◌, ◌⊎◌, ℕ, ◌+◌, ◌-◌, ◌<◌, ◌≤◌, min, List, ◌++◌, length, take}
use Rattle.hk_base.specs.Disk.{DiskState, Image, IsImage, Tells, piece}
use Rattle.hk_base.specs.Faults.{Rose}
use Rattle.command_io.specs.declared.ends.ReplayEnd.{ReplayEnd}
use Rattle.command_io.specs.declared.ends.ReplayEnd.TheVariants as replay_end

-- Both files are as they were. A crash at any moment leaves only what it might have left before.
pub record OnlyLooks (old new : DiskState) : Type 0 where
  pub tells : new.tells ≡ old.tells
  pub faults : old.faults ≤ new.faults
  pub later : old.moment ≤ new.moment
  pub reads : Tells old → (f : ℕ) → f < 2 → new.reads f ≡ old.reads f
  pub leaves : (f : ℕ) (c : List ℕ) → f < 2 → new.leaves f c → old.leaves f c
  pub moments : (t : ℕ) (c : Image) → t ≤ old.moment → new.left_since t c → old.left_since t c ⊎ IsImage old c

-- why a file was not read into memory: the disk failed, or there was no memory
abbrev pub CannotLook : DiskState → DiskState → ReplayEnd → Type 0
CannotLook old new end = ((end ≡ replay_end.StoreFault) × Rose old.faults new.faults) ⊎ (end ≡ replay_end.NoMemory)

-- n bytes of a file from an offset on were appended to those in memory: as many as a read gives
pub record AppendsPiece (file at : ℕ) (old : DiskState) (bytes bytes' : List ℕ) (n : ℕ) : Type 0 where
  pub grows : length bytes' ≡ length bytes + n
  pub few : n ≤ 4096
  pub count : Tells old → n ≡ min 4096 (length (old.reads file) - at)
  pub copied : Tells old → bytes' ≡ bytes ++ piece at n (old.reads file)

-- the bytes are the first ones of a file, if the disk tells what it holds
pub record IsFrontOf (disk : DiskState) (file from : ℕ) (bytes : List ℕ) : Type 0 where
  pub inside : Tells disk → from ≤ length (disk.reads file)
  pub front : Tells disk → bytes ≡ take from (disk.reads file)

-- so many bytes are all of a file, if the disk tells what it holds
pub record IsWholeCopy (disk : DiskState) (file count : ℕ) (bytes : List ℕ) : Type 0 where
  pub count_is : length bytes ≡ count
  pub whole : Tells disk → bytes ≡ disk.reads file
