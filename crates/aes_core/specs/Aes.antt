-- AES (FIPS 197) on lists of bytes. Byte r + 4 c of a block or state is in row r and column c. Of the standard's
-- parameters, nk is the number of words in the key, and nr the number of rounds.
use Rattle.std.specs.Prelude.{◌≡◌, ◌≤◌, ℕ, zero, suc, ◌+◌, ◌-◌, ◌*◌, ◌/◌, ◌%◌, cond, eqb, ltb, ◌&&◌, List, [], ◌∷◌, ◌++◌, map, length, bit_xor, slice_index, slice_index_or}
use Rattle.std.specs.List.{range_with_len}
use Rattle.aes_core.specs.Field.{field_product, power_of_x, s_box}

-- the byte of a state in row r and column c
abbrev pub at : List ℕ → ℕ → ℕ → ℕ
at state r c = slice_index state (r + 4 * c)

-- the state with byte r c in row r and column c
abbrev pub state_of : (ℕ → ℕ → ℕ) → List ℕ
state_of byte = map (λ k. byte (k % 4) (k / 4)) (range_with_len 0 16)

-- SubBytes
unfoldable pub sub_bytes : List ℕ → List ℕ
sub_bytes state = state_of (λ r c. s_box (at state r c))

-- ShiftRows: row r moves left by r
unfoldable pub shift_rows : List ℕ → List ℕ
shift_rows state = state_of (λ r c. at state r ((c + r) % 4))

-- the product of the row 2, 3, 1, 1 and a column
unfoldable pub mixed : ℕ → ℕ → ℕ → ℕ → ℕ
mixed a b c d = bit_xor (bit_xor (bit_xor (field_product 2 a) (field_product 3 b)) c) d

-- MixColumns: each row of the matrix is the one above it, moved right by one
unfoldable pub mix_columns : List ℕ → List ℕ
mix_columns state = state_of (λ r c. mixed (at state r c) (at state ((r + 1) % 4) c) (at state ((r + 2) % 4) c) (at state ((r + 3) % 4) c))

-- AddRoundKey: the words of the round's key are the columns
unfoldable pub add_round_key : List (List ℕ) → ℕ → List ℕ → List ℕ
add_round_key words round state = state_of (λ r c. bit_xor (at state r c) (slice_index (slice_index_or words (4 * round + c) []) r))

-- a word is a list of four bytes
abbrev pub word : (ℕ → ℕ) → List ℕ
word byte = byte 0 ∷ byte 1 ∷ byte 2 ∷ byte 3 ∷ []

-- RotWord
abbrev pub rot_word : List ℕ → List ℕ
rot_word a = word (λ r. slice_index a ((r + 1) % 4))

-- SubWord
abbrev pub sub_word : List ℕ → List ℕ
sub_word a = word (λ r. s_box (slice_index a r))

-- the sum of two words
abbrev pub xor_word : List ℕ → List ℕ → List ℕ
xor_word a b = word (λ r. bit_xor (slice_index a r) (slice_index b r))

-- Rcon
abbrev pub rcon : ℕ → List ℕ
rcon j = power_of_x (j - 1) ∷ 0 ∷ 0 ∷ 0 ∷ []

-- what is added to word i - nk to make word i, if the last word is word i - 1
abbrev pub key_term : ℕ → ℕ → List ℕ → List ℕ
key_term nk i last =
    cond (eqb (i % nk) 0) (xor_word (sub_word (rot_word last)) (rcon (i / nk)))
    (cond (ltb 6 nk && eqb (i % nk) 4) (sub_word last) last)

-- the words with the next one appended
unfoldable pub with_next_word : ℕ → List (List ℕ) → List (List ℕ)
with_next_word nk words = words ++ xor_word (slice_index_or words (length words - nk) []) (key_term nk (length words) (slice_index_or words (length words - 1) [])) ∷ []

-- the first n words of a key
unfoldable pub key_words : ℕ → List ℕ → List (List ℕ)
key_words zero key = []
key_words (suc n) key = key_words n key ++ word (λ r. slice_index key (4 * n + r)) ∷ []

-- the key's nk words and n more
unfoldable pub expanded_key : ℕ → List ℕ → ℕ → List (List ℕ)
expanded_key nk key zero = key_words nk key
expanded_key nk key (suc n) = with_next_word nk (expanded_key nk key n)

-- KeyExpansion: 4 (nr + 1) words, with nr = nk + 6
unfoldable pub key_expansion : List ℕ → List (List ℕ)
key_expansion key = let nk = length key / 4 in expanded_key nk key (3 * nk + 28)

-- the state after the first round key is added and n full rounds are done
unfoldable pub state_after : List (List ℕ) → List ℕ → ℕ → List ℕ
state_after words block zero = add_round_key words 0 block
state_after words block (suc n) = add_round_key words (suc n) (mix_columns (shift_rows (sub_bytes (state_after words block n))))

-- a block after nr rounds, the last without MixColumns
unfoldable pub encrypted : List (List ℕ) → ℕ → List ℕ → List ℕ
encrypted words nr block = add_round_key words nr (shift_rows (sub_bytes (state_after words block (nr - 1))))

-- Cipher: the block encrypted under a key of 16, 24 or 32 bytes
unfoldable pub cipher : List ℕ → List ℕ → List ℕ
cipher key block = encrypted (key_expansion key) (length key / 4 + 6) block

-- the block with x as its last byte
abbrev pub with_last : List ℕ → ℕ → List ℕ
with_last block x = map (λ k. cond (eqb k 15) x (slice_index block k)) (range_with_len 0 16)

-- the ciphers of eight blocks: the block, and those that differ from it in the last byte, which is counted up
abbrev pub eight_ciphers : List ℕ → List ℕ → List (List ℕ)
eight_ciphers key block = map (λ i. cipher key (with_last block (slice_index block 15 + i))) (range_with_len 0 8)

-- the number of words of a key and of its expansion: 4 and 44, 6 and 52, or 8 and 60
abbrev pub IsKeySize : ℕ → ℕ → Type 0
IsKeySize nk words = (4 ≤ nk) × (nk ≤ 8) × (nk % 2 ≡ 0) × (words ≡ 4 * nk + 28)

-- the bytes of the first n words
unfoldable pub key_bytes : ℕ → List (List ℕ) → List ℕ
key_bytes zero words = []
key_bytes (suc n) words = key_bytes n words ++ slice_index_or words n []
