-- Columns as words: their sums, and the columns of a round.
use Rattle.std.proofs.Common.{◌≡◌, ℕ, ◌+◌, ◌*◌, ◌/◌, ◌%◌, ◌^◌, ◌<◌, List, [], ◌∷◌, ◌++◌, slice_index, slice_index_or, refl, ◌∙◌, arith, bit_xor}
use Rattle.std.proofs.lemmas.Nat.{xor_shr, xor_mod, xor_comm}
use Rattle.std.specs.Int.Bits.{xor_assoc, xor_zero_r}
use Rattle.std.specs.Int.{w32, from_le_bytes}
use Rattle.aes_core.specs.Field.{field_product}
use Rattle.aes_core.specs.Aes.{add_round_key, mixed, word, xor_word}
use Rattle.aes_core.specs.Words.{byte_of, mixed_word, times_0, times_1, times_2, times_3, word_bytes}

-- the word of four bytes has these bytes
pub word_bytes-from_le_bytes : (n a b c d : ℕ) → a < 256 → b < 256 → c < 256 → d < 256 → n ≡ from_le_bytes w32 (a ∷ b ∷ c ∷ d ∷ []) → word_bytes n ≡ a ∷ b ∷ c ∷ d ∷ []
unfolding byte_of
word_bytes-from_le_bytes n a b c d small_a small_b small_c small_d is =
    let first : n / 2 ^ (8 * 0) % 2 ^ 8 ≡ a = omega (arith, is) in
    let second : n / 2 ^ (8 * 1) % 2 ^ 8 ≡ b = omega (arith, is) in
    let third : n / 2 ^ (8 * 2) % 2 ^ 8 ≡ c = omega (arith, is) in
    let fourth : n / 2 ^ (8 * 3) % 2 ^ 8 ≡ d = omega (arith, is) in
    λ i. first i ∷ second i ∷ third i ∷ fourth i ∷ []

byte_of-bit_xor : (a b r : ℕ) → byte_of (bit_xor a b) r ≡ bit_xor (byte_of a r) (byte_of b r)
unfolding byte_of
byte_of-bit_xor a b r = rw (xor_shr a b (8 * r), xor_mod (a / 2 ^ (8 * r)) (b / 2 ^ (8 * r)) 8) refl

word_bytes-bit_xor : (a b : ℕ) → word_bytes (bit_xor a b) ≡ xor_word (word_bytes a) (word_bytes b)
word_bytes-bit_xor a b = simp byte_of-bit_xor

-- the sum of words of known bytes
pub sum_is : (a b : ℕ) (u v : List ℕ) → word_bytes a ≡ u → word_bytes b ≡ v → word_bytes (bit_xor a b) ≡ xor_word u v
sum_is a b u v a_is b_is = rw (← a_is, ← b_is) (word_bytes-bit_xor a b)

-- the first of four summands moves to the end
turned : (p q r s : ℕ) → bit_xor (bit_xor (bit_xor p q) r) s ≡ bit_xor (bit_xor (bit_xor q r) s) p
turned p q r s = rw (xor_assoc p q r, xor_assoc p (bit_xor q r) s, xor_comm (bit_xor (bit_xor q r) s) p) refl

-- a column is the sum of the products of its bytes
sum_of_products : (a b c d : ℕ) → xor_word (xor_word (xor_word (times_0 a) (times_1 b)) (times_2 c)) (times_3 d) ≡ mixed_word a b c d
unfolding mixed
sum_of_products a b c d =
    let second = turned a (field_product 2 b) (field_product 3 c) d in
    let third = turned a b (field_product 2 c) (field_product 3 d) ∙ turned b (field_product 2 c) (field_product 3 d) a in
    let fourth = turned (field_product 3 a) b c (field_product 2 d) ∙ turned b c (field_product 2 d) (field_product 3 a) ∙ turned c (field_product 2 d) (field_product 3 a) b in
    λ i. bit_xor (bit_xor (bit_xor (field_product 2 a) (field_product 3 b)) c) d ∷ second i ∷ third i ∷ fourth i ∷ []

-- a column of a full round
pub full_column_is : (p q r s k a b c d : ℕ) (key : List ℕ) → word_bytes p ≡ times_0 a → word_bytes q ≡ times_1 b → word_bytes r ≡ times_2 c → word_bytes s ≡ times_3 d → word_bytes k ≡ key
    → word_bytes (bit_xor (bit_xor (bit_xor (bit_xor p q) r) s) k) ≡ xor_word (mixed_word a b c d) key
full_column_is p q r s k a b c d key p_is q_is r_is s_is key_is =
    let two = sum_is p q _ _ p_is q_is in
    let three = sum_is (bit_xor p q) r _ _ two r_is in
    let four = sum_is (bit_xor (bit_xor p q) r) s _ _ three s_is in
    sum_is (bit_xor (bit_xor (bit_xor p q) r) s) k (mixed_word a b c d) key (four ∙ sum_of_products a b c d) key_is

-- a column of the last round: the sum of words that have a byte each
pub last_column_is : (p q r s k a b c d : ℕ) (key : List ℕ) → word_bytes p ≡ a ∷ 0 ∷ 0 ∷ 0 ∷ [] → word_bytes q ≡ 0 ∷ b ∷ 0 ∷ 0 ∷ [] → word_bytes r ≡ 0 ∷ 0 ∷ c ∷ 0 ∷ [] → word_bytes s ≡ 0 ∷ 0 ∷ 0 ∷ d ∷ []
    → word_bytes k ≡ key → word_bytes (bit_xor (bit_xor (bit_xor (bit_xor p q) r) s) k) ≡ xor_word (a ∷ b ∷ c ∷ d ∷ []) key
last_column_is p q r s k a b c d key p_is q_is r_is s_is key_is =
    let two = sum_is p q _ _ p_is q_is in
    let three = sum_is (bit_xor p q) r _ _ two r_is in
    let four = sum_is (bit_xor (bit_xor p q) r) s _ _ three s_is in
    let alone : (n : ℕ) → bit_xor n 0 ≡ n = xor_zero_r in
    let twice : (n : ℕ) → bit_xor (bit_xor n 0) 0 ≡ n = λ n. alone (bit_xor n 0) ∙ alone n in
    let first : bit_xor (bit_xor (bit_xor a 0) 0) 0 ≡ a = alone (bit_xor (bit_xor a 0) 0) ∙ twice a in
    let second : bit_xor (bit_xor (bit_xor 0 b) 0) 0 ≡ b = twice b in
    let third : bit_xor (bit_xor (bit_xor 0 0) c) 0 ≡ c = alone c in
    let fourth : bit_xor (bit_xor (bit_xor 0 0) 0) d ≡ d = refl in
    sum_is (bit_xor (bit_xor (bit_xor p q) r) s) k (a ∷ b ∷ c ∷ d ∷ []) key (four ∙ (λ i. first i ∷ second i ∷ third i ∷ fourth i ∷ [])) key_is

-- column c of a state
abbrev pub column_at : List ℕ → ℕ → List ℕ
column_at state c = word (λ r. slice_index state (r + 4 * c))

-- AddRoundKey by columns
pub add_round_key-by_columns : (words : List (List ℕ)) (round : ℕ) (state p q s t : List ℕ)
    → p ≡ xor_word (column_at state 0) (slice_index_or words (4 * round) [])
    → q ≡ xor_word (column_at state 1) (slice_index_or words (4 * round + 1) [])
    → s ≡ xor_word (column_at state 2) (slice_index_or words (4 * round + 2) [])
    → t ≡ xor_word (column_at state 3) (slice_index_or words (4 * round + 3) [])
    → p ++ q ++ s ++ t ≡ add_round_key words round state
unfolding add_round_key
add_round_key-by_columns words round state p q s t p_is q_is s_is t_is =
    let none_more : 4 * round + 0 ≡ 4 * round = omega arith in
    rw (none_more, p_is, q_is, s_is, t_is) refl
