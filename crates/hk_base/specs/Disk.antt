-- How contracts see a disk of two files, and what each call does to it.
use Rattle.std.specs.Prelude.{◌≡◌, ◌⊎◌, ◌↔◌, ℕ, ◌+◌, ◌-◌, ◌<◌, ◌≤◌, max, min, List, ◌++◌, length, take, drop, Bool, IsTrue}

-- a crash leaves an image: the bytes of file 0 and of file 1
abbrev pub Image : Type 0
Image = ℕ → List ℕ

-- The view of a disk in proofs.
pub record DiskState : Type 1 where
  -- whether a proof knows what its files hold
  pub tells : Bool
  -- whether it keeps a record of what earlier crashes may have left
  pub records : Bool
  -- what each file reads as, if `tells`
  pub reads : ℕ → List ℕ
  -- what a crash at this moment may leave of each file
  pub leaves : ℕ → List ℕ → Type 0
  -- the moment, a number that never decreases
  pub moment : ℕ
  -- what a crash at some moment from the given one on may have left
  pub left_since : ℕ → Image → Type 0
  -- the number of its failures
  pub faults : ℕ

abbrev pub Tells : DiskState → Type 0
Tells d = IsTrue d.tells

-- an image of this moment: any image of one file beside any image of the other
abbrev pub IsImage : DiskState → Image → Type 0
IsImage d c = (f : ℕ) → f < 2 → d.leaves f (c f)

-- What every call on a file keeps: time goes on, and the other file is unchanged.
pub record CallOn (file : ℕ) (old new : DiskState) : Type 0 where
  pub tells : new.tells ≡ old.tells
  pub records : new.records ≡ old.records
  pub faults : old.faults ≤ new.faults
  pub later : old.moment ≤ new.moment
  pub nothing_else : (t : ℕ) (c : Image) → t ≤ old.moment → new.left_since t c → old.left_since t c ⊎ IsImage new c
  pub keeps : IsTrue old.records → (t : ℕ) (c : Image) → t ≤ old.moment → old.left_since t c → new.left_since t c
  pub other_reads : Tells old → new.reads (1 - file) ≡ old.reads (1 - file)
  pub other_leaves : (c : List ℕ) → new.leaves (1 - file) c ↔ old.leaves (1 - file) c

-- A call that changes neither file. A crash leaves only what it might have left before.
pub record Reads (file : ℕ) (old new : DiskState) : Type 0 where
  pub reads : Tells old → new.reads file ≡ old.reads file
  pub leaves : (c : List ℕ) → new.leaves file c → old.leaves file c

-- what a read of up to n bytes at an offset returns
abbrev pub piece : ℕ → ℕ → List ℕ → List ℕ
piece at n file = take n (drop at file)

-- the old bytes with these bytes written at this offset
abbrev pub written : ℕ → List ℕ → List ℕ → List ℕ
written at bytes old = take at old ++ bytes ++ drop (at + length bytes) old

-- after a write of n bytes that was interrupted: any bytes in the range and past the old end, elsewhere unchanged
pub record Torn (at n : ℕ) (old new : List ℕ) : Type 0 where
  pub before : take at new ≡ take at old
  pub after : drop (at + n) new ≡ drop (at + n) old
  pub no_shorter : length old ≤ length new
  pub no_longer : length new ≤ max (length old) (at + n)

-- after a cut that was interrupted: a length in between, and a prefix of the old bytes
pub record Cut (n : ℕ) (old new : List ℕ) : Type 0 where
  pub no_shorter : min n (length old) ≤ length new
  pub front : take (length new) old ≡ new

-- each new outcome follows from an old outcome by one step
abbrev pub Follows : (List ℕ → List ℕ → Type 0) → (List ℕ → Type 0) → (List ℕ → Type 0) → Type 0
Follows step old new = (c : List ℕ) → new c → (d : List ℕ) × old d × step d c

-- a crash leaves this and nothing else
abbrev pub Only : List ℕ → (List ℕ → Type 0) → Type 0
Only file outcomes = (c : List ℕ) → outcomes c → c ≡ file

-- What a run of calls on one file keeps.
pub record RunOn (file : ℕ) (old new : DiskState) : Type 0 where
  pub tells : new.tells ≡ old.tells
  pub faults : old.faults ≤ new.faults
  pub later : old.moment ≤ new.moment
  pub other_reads : Tells old → new.reads (1 - file) ≡ old.reads (1 - file)
  pub other_leaves : (c : List ℕ) → new.leaves (1 - file) c ↔ old.leaves (1 - file) c

-- A crash at any moment of a run of calls on one file leaves bytes of it that satisfy P, and an image of the other file
-- from before the run; or a crash before the run might have left the same.
pub record LeavesOnly (file : ℕ) (old new : DiskState) (P : List ℕ → Type 0) : Type 0 where
  pub before : (t : ℕ) (c : Image) → t ≤ old.moment → new.left_since t c → old.left_since t c ⊎ (P (c file) × old.leaves (1 - file) (c (1 - file)))
