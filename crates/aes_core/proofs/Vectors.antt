-- The definitions give the values printed in FIPS 197. Each vector is computed.
use Rattle.std.proofs.Common.{◌≡◌, ℕ, List, [], ◌∷◌, refl}
use Rattle.std.specs.List.{range_with_len}
use Rattle.aes_core.specs.Field.{field_product, s_box}
use Rattle.aes_core.specs.Aes.{cipher, encrypted, state_after, key_expansion, expanded_key, with_next_word, key_words, add_round_key, mix_columns, mixed, shift_rows, sub_bytes}

-- the standard's example of a product in the field
product : field_product 0x57 0x83 ≡ 0xc1
unfolding field_product
product = refl

-- the standard's example of the S-box
substitution : s_box 0x53 ≡ 0xed
unfolding s_box field_product
substitution = refl

-- the block of appendix C
block : List ℕ
block = 0x00 ∷ 0x11 ∷ 0x22 ∷ 0x33 ∷ 0x44 ∷ 0x55 ∷ 0x66 ∷ 0x77 ∷ 0x88 ∷ 0x99 ∷ 0xaa ∷ 0xbb ∷ 0xcc ∷ 0xdd ∷ 0xee ∷ 0xff ∷ []

-- C.1, under the key 00 to 0f
aes_128 : cipher (range_with_len 0 16) block ≡ 0x69 ∷ 0xc4 ∷ 0xe0 ∷ 0xd8 ∷ 0x6a ∷ 0x7b ∷ 0x04 ∷ 0x30 ∷ 0xd8 ∷ 0xcd ∷ 0xb7 ∷ 0x80 ∷ 0x70 ∷ 0xb4 ∷ 0xc5 ∷ 0x5a ∷ []
unfolding cipher encrypted state_after key_expansion expanded_key with_next_word key_words add_round_key mix_columns mixed shift_rows sub_bytes s_box field_product block
aes_128 = refl

-- C.2, under the key 00 to 17
aes_192 : cipher (range_with_len 0 24) block ≡ 0xdd ∷ 0xa9 ∷ 0x7c ∷ 0xa4 ∷ 0x86 ∷ 0x4c ∷ 0xdf ∷ 0xe0 ∷ 0x6e ∷ 0xaf ∷ 0x70 ∷ 0xa0 ∷ 0xec ∷ 0x0d ∷ 0x71 ∷ 0x91 ∷ []
unfolding cipher encrypted state_after key_expansion expanded_key with_next_word key_words add_round_key mix_columns mixed shift_rows sub_bytes s_box field_product block
aes_192 = refl

-- C.3, under the key 00 to 1f
aes_256 : cipher (range_with_len 0 32) block ≡ 0x8e ∷ 0xa2 ∷ 0xb7 ∷ 0xca ∷ 0x51 ∷ 0x67 ∷ 0x45 ∷ 0xbf ∷ 0xea ∷ 0xfc ∷ 0x49 ∷ 0x90 ∷ 0x4b ∷ 0x49 ∷ 0x60 ∷ 0x89 ∷ []
unfolding cipher encrypted state_after key_expansion expanded_key with_next_word key_words add_round_key mix_columns mixed shift_rows sub_bytes s_box field_product block
aes_256 = refl
