-- The payloads that a reader of a log has not returned yet.
use Rattle.std.specs.Prelude.{◌≡◌, ◌≢◌, ℕ, ◌+◌, ◌-◌, ◌≤◌, min, List, [], ◌∷◌, ◌++◌, length, drop, Option, Some, None}
use Rattle.std.specs.List.{AllByRecursion}
use Rattle.hk_base.specs.Disk.{DiskState, piece}
use Rattle.frame_log.specs.Format.{frames, IsPayload, placed}
use Rattle.frame_log.specs.declared.window.Window.{Window}
use Rattle.frame_log.specs.declared.records.Records.{Records}

-- the bytes of the window are those of the file at its offset
abbrev pub HasBytesOf : List ℕ → Window → Type 0
HasBytesOf file window = window.bytes.items ≡ piece window.from (length window.bytes.items) file

-- the window has `want` bytes of the file from `at` on, or all up to the end of the file
pub record ShowsWindow (file : List ℕ) (window : Window) (at want : ℕ) : Type 0 where
  pub bytes : HasBytesOf file window
  pub begins : window.from ≤ at
  pub enough : min (at + want) (length file) ≤ window.from + length window.bytes.items

-- The file has, from the reader's offset on, frames of these payloads and then an end gate.
pub record Ahead (disk : DiskState) (records : Records) (todo : List (List ℕ)) : Type 0 where
  pub gate : ℕ
  pub rest : List ℕ
  pub sized : AllByRecursion IsPayload todo
  pub split : drop records.at (disk.reads records.file) ≡ frames todo ++ gate ∷ rest
  pub shut : gate ≢ 1
  pub size : records.size ≡ length (disk.reads records.file)
  pub window : HasBytesOf (disk.reads records.file) records.window

-- the reader returned the first of these payloads, which is at this offset, and is now at the rest
pub record IsFirstPayload (disk : DiskState) (old new : Records) (todo : List (List ℕ)) (offset : ℕ) : Type 0 where
  pub rest : List (List ℕ)
  pub first : todo ≡ new.payload.items ∷ rest
  pub place : offset ≡ old.at + 5
  pub next_place : new.at ≡ old.at + 5 + length new.payload.items
  pub ahead : Ahead disk new rest

-- a reader returns the first of these payloads, or None if there are none, and then stays where it is
abbrev pub IsNextPayload : DiskState → Records → Records → List (List ℕ) → Option ℕ → Type 0
IsNextPayload disk old new todo (Some place) = IsFirstPayload disk old new todo place
IsNextPayload disk old new todo None = (todo ≡ []) × (new.at ≡ old.at) × Ahead disk new []

-- the number of bytes from the reader's offset to the end of the file
abbrev pub left : Records → ℕ
left records = records.size - records.at

-- the first of the payloads `todo` has its gate at `at`; the reader returned `given` of them, and is now at the rest
pub record IsPartlyRead (disk : DiskState) (at : ℕ) (todo : List (List ℕ)) (records : Records) (given : List (ℕ × List ℕ)) : Type 0 where
  pub rest : List (List ℕ)
  pub split : placed at todo ≡ given ++ placed records.at rest
  pub ahead : Ahead disk records rest
