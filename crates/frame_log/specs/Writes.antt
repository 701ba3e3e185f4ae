-- What several writes within a range of a file may leave: what one write of the whole range may.
use Rattle.std.specs.Prelude.{◌⊎◌, ℕ, ◌+◌, ◌≤◌, List}
use Rattle.hk_base.specs.Disk.{DiskState, Follows, LeavesOnly, Torn}

-- the file, at most n bytes of it from an offset on changed
pub record WritesOn (file at n : ℕ) (old new : DiskState) : Type 0 where
  -- what it reads as, and what a crash may leave now
  pub reads : Torn at n (old.reads file) (new.reads file)
  pub leaves : Follows (Torn at n) (old.leaves file) (new.leaves file)
  -- what a crash at any moment of the writes leaves
  pub moments : LeavesOnly file old new (λ c. (d : List ℕ) × old.leaves file d × Torn at n d c)

-- a range of n bytes, and one of `count` bytes
abbrev pub IsApart : ℕ → ℕ → ℕ → ℕ → Type 0
IsApart at n from count = (from + count ≤ at) ⊎ (at + n ≤ from)
