-- The form in which a vault holds the bytes of a file.
use Rattle.std.specs.Prelude.{ℕ, List, Option, None, Some}
use Rattle.aes_core.specs.AnyAes.{key_of}
use Rattle.aes_ctr.specs.Ctr.{ctr}
use Rattle.body_stream.specs.declared.coding.Coding.{Coding}
use Rattle.body_stream.specs.declared.coding.Coding.TheVariants.{Plain, Keyed}
use Rattle.body_stream.specs.declared.keys.BodyKey.{BodyKey}

-- The stored form of bytes of a file, from its byte `offset` on. With a key it is counter mode, which begins at the
-- initialization vector; without one it is the bytes themselves.
abbrev pub stored_form : Option BodyKey → ℕ → List ℕ → List ℕ
stored_form None offset bytes = bytes
stored_form (Some key) offset bytes = ctr key.dek key.iv offset bytes

-- the same with an expanded key
abbrev pub coded_form : Coding → ℕ → List ℕ → List ℕ
coded_form Plain offset bytes = bytes
coded_form (Keyed aes counter) offset bytes = ctr (key_of aes) counter offset bytes
