-- AES under a key of any of the three lengths.
use Rattle.std.specs.Prelude.{ℕ, List}
use Rattle.aes_core.specs.declared.any_length.AnyAes.{AnyAes}
use Rattle.aes_core.specs.declared.any_length.AnyAes.TheVariants.{A128, A192, A256}

-- the key that a cipher was made with
abbrev pub key_of : AnyAes → List ℕ
key_of (A128 key) = key
key_of (A192 key) = key
key_of (A256 key) = key
