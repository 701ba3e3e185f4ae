-- Bytes of a source that are read in blocks and used one at a time.
use Rattle.std.specs.Prelude.{◌<◌, ℕ, List, [], ◌∷◌, length, Option, None, Some}
use Rattle.std.specs.Io.KnownBytes.{prepend_known}
use Rattle.hk_base.specs.declared.reading.Next.{Next}
use Rattle.hk_base.specs.declared.reading.Next.TheVariants.{Byte, End, Past, Fault}

-- the bytes that were read and not used, and the number of used bytes
pub record Pending : Type 0 where
  pub bytes : List ℕ
  pub used : ℕ

-- all bytes that are left, if the source's are known
abbrev pub ahead : Pending → Option (List ℕ) → Option (List ℕ)
ahead pending left = prepend_known pending.bytes left

-- at least one byte is left, as far as it is known
abbrev pub IsMore : Option (List ℕ) → Type 0
IsMore None = Unit {0}
IsMore (Some bytes) = 0 < length bytes

-- the byte that was used, if any
abbrev pub byte_used : Next → List ℕ
byte_used (Byte b) = b ∷ []
byte_used End = []
byte_used Past = []
byte_used Fault = []
