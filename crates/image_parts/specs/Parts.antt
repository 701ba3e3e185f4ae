-- Bytes that are told piece by piece, of which a buffer keeps those from an offset on.
use Rattle.std.specs.Prelude.{◌≡◌, ℕ, ◌+◌, ◌-◌, ◌^◌, ◌<◌, ◌&&◌, nat_le, nat_lt, List, length, slice_index_or, if◌then◌else◌}

-- the byte at an index of a buffer, after bytes came behind the first `seen` ones: one of these, or the one that was there
abbrev pub kept_byte : ℕ → ℕ → List ℕ → List ℕ → ℕ → ℕ
kept_byte at seen bytes old i = if nat_le seen (at + i) && nat_lt (at + i) (seen + length bytes) then slice_index_or bytes (at + i - seen) 0 else slice_index_or old i 0

-- a count of bytes in 64 bits, which stops at the greatest number
abbrev pub count_told : ℕ → ℕ
count_told n = if nat_lt n (2 ^ 64) then n else 2 ^ 64 - 1

-- All of these bytes were told. The buffer has those from the offset on, as far as it reaches.
pub record KeepsPart (at seen : ℕ) (all buf : List ℕ) : Type 0 where
  pub count : seen ≡ count_told (length all)
  pub holds : length all < 2 ^ 64 → (i : ℕ) → i < length buf → at + i < length all → slice_index_or buf i 0 ≡ slice_index_or all (at + i) 0
