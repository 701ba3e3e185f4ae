-- The definition gives published values. Each is computed.
use Rattle.std.proofs.Common.{◌≡◌, [], ◌∷◌, refl, replicate, slice_index}
use Rattle.aes_core.specs.Field.{field_product, s_box}
use Rattle.aes_core.specs.Aes.{cipher, encrypted, state_after, key_expansion, expanded_key, with_next_word, key_words, add_round_key, mix_columns, mixed, shift_rows, sub_bytes}
use Rattle.aes_ctr.specs.Ctr.{counter_block, ctr, stream_byte}

-- the counter wraps: after the greatest one, byte 16 is the first byte of the cipher of 16 zero bytes
wrap : slice_index (ctr (replicate 16 0) (replicate 16 255) 16 (0 ∷ [])) 0 ≡ 0x66
unfolding ctr stream_byte counter_block cipher encrypted state_after key_expansion expanded_key with_next_word key_words add_round_key mix_columns mixed shift_rows sub_bytes s_box field_product
wrap = refl
