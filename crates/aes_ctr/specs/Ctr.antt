-- Counter mode (NIST SP 800-38A) on lists of bytes.
use Rattle.std.specs.Prelude.{ℕ, ◌+◌, ◌/◌, ◌%◌, ◌^◌, List, [], ◌∷◌, map, length, bit_xor, slice_index}
use Rattle.std.specs.List.{range_with_len}
use Rattle.std.specs.Int.{w128, from_be_bytes, to_be_bytes}
use Rattle.aes_core.specs.Aes.{cipher}

-- the counter block j blocks after the first: the counter is a big-endian number, added modulo 2^128
unfoldable pub counter_block : List ℕ → ℕ → List ℕ
counter_block counter j = to_be_bytes w128 ((from_be_bytes w128 counter + j) % 2 ^ 128)

-- block j of the key stream that starts at a counter
abbrev pub stream_block : List ℕ → List ℕ → ℕ → List ℕ
stream_block key counter j = cipher key (counter_block counter j)

-- its eight blocks from block j on
abbrev pub eight_stream_blocks : List ℕ → List ℕ → ℕ → List (List ℕ)
eight_stream_blocks key counter j =
    stream_block key counter j ∷ stream_block key counter (j + 1) ∷ stream_block key counter (j + 2) ∷ stream_block key counter (j + 3)
    ∷ stream_block key counter (j + 4) ∷ stream_block key counter (j + 5) ∷ stream_block key counter (j + 6) ∷ stream_block key counter (j + 7) ∷ []

-- byte i of the key stream that starts at a counter
unfoldable pub stream_byte : List ℕ → List ℕ → ℕ → ℕ
stream_byte key counter i = slice_index (stream_block key counter (i / 16)) (i % 16)

-- the bytes, each xored with a byte of the key stream, from its byte `offset` on
unfoldable pub ctr : List ℕ → List ℕ → ℕ → List ℕ → List ℕ
ctr key counter offset bytes = map (λ i. bit_xor (slice_index bytes i) (stream_byte key counter (offset + i))) (range_with_len 0 (length bytes))
