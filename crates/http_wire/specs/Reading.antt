-- Bytes of a source that were read and are not used yet.
use Rattle.std.specs.Prelude.{List, ℕ, [], ◌∷◌, Option}
use Rattle.std.specs.Io.KnownBytes.{prepend_known}
use Rattle.http_wire.specs.declared.buffer.Next.{Next}
use Rattle.http_wire.specs.declared.buffer.Next.TheVariants.{Byte, End, Fault}

-- all bytes to come, if the source's are known
abbrev pub ahead : List ℕ → Option (List ℕ) → Option (List ℕ)
ahead pending left = prepend_known pending left

-- the byte that was used, if any
abbrev pub byte_used : Next → List ℕ
byte_used (Byte b) = b ∷ []
byte_used End = []
byte_used Fault = []
