-- Bytes that are encrypted in place, from the first to the last.
use Rattle.std.specs.Prelude.{◌≡◌, ℕ, ◌+◌, ◌<◌, ◌≤◌, List, length, bit_xor, slice_index}
use Rattle.aes_ctr.specs.Ctr.{stream_byte}

-- the bytes are the old ones, of which the first n are xored with the stream from its byte `offset` on
pub record IsUpTo (key counter : List ℕ) (offset : ℕ) (old bytes : List ℕ) (n : ℕ) : Type 0 where
  pub same_length : length bytes ≡ length old
  pub done : (k : ℕ) → k < n → slice_index bytes k ≡ bit_xor (slice_index old k) (stream_byte key counter (offset + k))
  pub rest : (k : ℕ) → n ≤ k → slice_index bytes k ≡ slice_index old k

-- a step from the bytes `before` to the bytes `after` that encrypts those from `from` to `to`
abbrev pub Advances : List ℕ → List ℕ → ℕ → List ℕ → List ℕ → ℕ → ℕ → Type 0
Advances key counter offset before after from to = (old : List ℕ) → IsUpTo key counter offset old before from → IsUpTo key counter offset old after to
