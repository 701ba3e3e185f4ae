-- Blocks that differ in the last byte: after a round their states differ in column 0 alone.
use Rattle.std.proofs.Common.{◌≡◌, ℕ, List, [], ◌∷◌, ◌++◌, slice_index, slice_index_or, refl, sym, ap, ◌∙◌, bit_xor}
use Rattle.std.proofs.lemmas.Nat.{xor_comm}
use Rattle.std.specs.Int.Bits.{xor_assoc, xor_self, xor_zero_r}
use Rattle.aes_core.specs.Field.{field_product, s_box}
use Rattle.aes_core.specs.Aes.{add_round_key, mix_columns, mixed, shift_rows, state_after, sub_bytes, with_last, xor_word}
use Rattle.aes_core.specs.Words.{byte_of, mixed_word, state_bytes, times_0, times_1, times_2, times_3, word_bytes}
use Rattle.aes_core.proofs.Columns.{column_at}

-- one of five summands is taken away and another is added
swap_1 : (x x' y z w k : ℕ) → bit_xor (bit_xor (bit_xor (bit_xor (bit_xor (bit_xor x y) z) w) k) x) x' ≡ bit_xor (bit_xor (bit_xor (bit_xor x' y) z) w) k
swap_1 x x' y z w k =
    let rest : ℕ = bit_xor (bit_xor (bit_xor y z) w) k in
    let split : (a : ℕ) → bit_xor (bit_xor (bit_xor (bit_xor a y) z) w) k ≡ bit_xor a rest =
    λ a. rw (xor_assoc a y z, xor_assoc a (bit_xor y z) w, xor_assoc a (bit_xor (bit_xor y z) w) k) refl in
    let gone : bit_xor (bit_xor x rest) x ≡ rest = rw (xor_comm x rest, xor_assoc rest x x, xor_self x, xor_zero_r rest) refl in
    rw (split x, split x', gone) (xor_comm rest x')

swap_2 : (x x' y z w k : ℕ) → bit_xor (bit_xor (bit_xor (bit_xor (bit_xor (bit_xor y x) z) w) k) x) x' ≡ bit_xor (bit_xor (bit_xor (bit_xor y x') z) w) k
swap_2 x x' y z w k = rw (xor_comm y x, xor_comm y x') (swap_1 x x' y z w k)

swap_3 : (x x' y z w k : ℕ) → bit_xor (bit_xor (bit_xor (bit_xor (bit_xor (bit_xor y z) x) w) k) x) x' ≡ bit_xor (bit_xor (bit_xor (bit_xor y z) x') w) k
swap_3 x x' y z w k =
    rw (xor_comm (bit_xor y z) x, xor_comm (bit_xor y z) x', ← xor_assoc x y z, ← xor_assoc x' y z) (swap_1 x x' y z w k)

swap_4 : (x x' y z w k : ℕ) → bit_xor (bit_xor (bit_xor (bit_xor (bit_xor (bit_xor y z) w) x) k) x) x' ≡ bit_xor (bit_xor (bit_xor (bit_xor y z) w) x') k
swap_4 x x' y z w k =
    let yzw : ℕ = bit_xor (bit_xor y z) w in
    let split : (a : ℕ) → bit_xor (bit_xor yzw a) k ≡ bit_xor (bit_xor (bit_xor (bit_xor a y) z) w) k =
    λ a. rw (xor_comm yzw a, ← xor_assoc a (bit_xor y z) w, ← xor_assoc a y z) refl in
    rw (split x, split x') (swap_1 x x' y z w k)

-- a byte of a column in row 0, 1, 2 or 3 gives way to another
other_0 : (a a' b c d : ℕ) (key : List ℕ) → xor_word (xor_word (xor_word (mixed_word a b c d) key) (times_0 a)) (times_0 a') ≡ xor_word (mixed_word a' b c d) key
unfolding mixed
other_0 a a' b c d key = λ i.
    swap_1 (field_product 2 a) (field_product 2 a') (field_product 3 b) c d (slice_index key 0) i ∷ swap_4 a a' (field_product 2 b) (field_product 3 c) d (slice_index key 1) i
    ∷ swap_3 a a' (field_product 2 c) (field_product 3 d) b (slice_index key 2) i ∷ swap_2 (field_product 3 a) (field_product 3 a') (field_product 2 d) b c (slice_index key 3) i ∷ []

other_1 : (a a' b c d : ℕ) (key : List ℕ) → xor_word (xor_word (xor_word (mixed_word b a c d) key) (times_1 a)) (times_1 a') ≡ xor_word (mixed_word b a' c d) key
unfolding mixed
other_1 a a' b c d key = λ i.
    swap_2 (field_product 3 a) (field_product 3 a') (field_product 2 b) c d (slice_index key 0) i ∷ swap_1 (field_product 2 a) (field_product 2 a') (field_product 3 c) d b (slice_index key 1) i
    ∷ swap_4 a a' (field_product 2 c) (field_product 3 d) b (slice_index key 2) i ∷ swap_3 a a' (field_product 2 d) (field_product 3 b) c (slice_index key 3) i ∷ []

other_2 : (a a' b c d : ℕ) (key : List ℕ) → xor_word (xor_word (xor_word (mixed_word b c a d) key) (times_2 a)) (times_2 a') ≡ xor_word (mixed_word b c a' d) key
unfolding mixed
other_2 a a' b c d key = λ i.
    swap_3 a a' (field_product 2 b) (field_product 3 c) d (slice_index key 0) i ∷ swap_2 (field_product 3 a) (field_product 3 a') (field_product 2 c) d b (slice_index key 1) i
    ∷ swap_1 (field_product 2 a) (field_product 2 a') (field_product 3 d) b c (slice_index key 2) i ∷ swap_4 a a' (field_product 2 d) (field_product 3 b) c (slice_index key 3) i ∷ []

other_3 : (a a' b c d : ℕ) (key : List ℕ) → xor_word (xor_word (xor_word (mixed_word b c d a) key) (times_3 a)) (times_3 a') ≡ xor_word (mixed_word b c d a') key
unfolding mixed
other_3 a a' b c d key = λ i.
    swap_4 a a' (field_product 2 b) (field_product 3 c) d (slice_index key 0) i ∷ swap_3 a a' (field_product 2 c) (field_product 3 d) b (slice_index key 1) i
    ∷ swap_2 (field_product 3 a) (field_product 3 a') (field_product 2 d) b c (slice_index key 2) i ∷ swap_1 (field_product 2 a) (field_product 2 a') (field_product 3 b) c d (slice_index key 3) i ∷ []

abbrev full : List (List ℕ) → ℕ → List ℕ → List ℕ
full words round state = add_round_key words round (mix_columns (shift_rows (sub_bytes state)))

-- the first round of a block with another last byte
first_is : (words : List (List ℕ)) (columns : List ℕ) (y : ℕ)
    → full words 1 (with_last (state_bytes columns) y)
    ≡ xor_word (xor_word (column_at (full words 1 (state_bytes columns)) 0) (times_3 (s_box (byte_of (slice_index columns 3) 3)))) (times_3 (s_box y))
    ++ column_at (full words 1 (state_bytes columns)) 1 ++ column_at (full words 1 (state_bytes columns)) 2 ++ column_at (full words 1 (state_bytes columns)) 3
unfolding add_round_key mix_columns shift_rows sub_bytes
first_is words columns y =
    let key : List ℕ = slice_index_or words 4 [] in
    let column_0 = other_3 (s_box (byte_of (slice_index columns 3) 3)) (s_box y)
    (s_box (byte_of (slice_index columns 0) 0)) (s_box (byte_of (slice_index columns 1) 1)) (s_box (byte_of (slice_index columns 2) 2)) key in
    λ i. sym column_0 i ++ column_at (full words 1 (state_bytes columns)) 1 ++ column_at (full words 1 (state_bytes columns)) 2 ++ column_at (full words 1 (state_bytes columns)) 3

-- the second round of a state with another column 0
second_is : (words : List (List ℕ)) (first : List ℕ) (column : ℕ)
    → full words 2 (word_bytes column ++ word_bytes (slice_index first 1) ++ word_bytes (slice_index first 2) ++ word_bytes (slice_index first 3))
    ≡ xor_word (xor_word (column_at (full words 2 (state_bytes first)) 0) (times_0 (s_box (byte_of (slice_index first 0) 0)))) (times_0 (s_box (byte_of column 0)))
    ++ xor_word (xor_word (column_at (full words 2 (state_bytes first)) 1) (times_3 (s_box (byte_of (slice_index first 0) 3)))) (times_3 (s_box (byte_of column 3)))
    ++ xor_word (xor_word (column_at (full words 2 (state_bytes first)) 2) (times_2 (s_box (byte_of (slice_index first 0) 2)))) (times_2 (s_box (byte_of column 2)))
    ++ xor_word (xor_word (column_at (full words 2 (state_bytes first)) 3) (times_1 (s_box (byte_of (slice_index first 0) 1)))) (times_1 (s_box (byte_of column 1)))
unfolding add_round_key mix_columns shift_rows sub_bytes
second_is words first column =
    let s : ℕ → ℕ → ℕ = λ c r. s_box (byte_of (slice_index first c) r) in
    let column_0 = other_0 (s 0 0) (s_box (byte_of column 0)) (s 1 1) (s 2 2) (s 3 3) (slice_index_or words 8 []) in
    let column_1 = other_3 (s 0 3) (s_box (byte_of column 3)) (s 1 0) (s 2 1) (s 3 2) (slice_index_or words 9 []) in
    let column_2 = other_2 (s 0 2) (s_box (byte_of column 2)) (s 2 0) (s 3 1) (s 1 3) (slice_index_or words 10 []) in
    let column_3 = other_1 (s 0 1) (s_box (byte_of column 1)) (s 3 0) (s 1 2) (s 2 3) (slice_index_or words 11 []) in
    λ i. sym column_0 i ++ sym column_1 i ++ sym column_2 i ++ sym column_3 i

-- another last byte of a block is another last byte of the state that the rounds begin with
last_added : (words : List (List ℕ)) (block : List ℕ) (x : ℕ)
    → add_round_key words 0 (with_last block x) ≡ with_last (add_round_key words 0 block) (bit_xor x (slice_index (slice_index_or words 3 []) 3))
unfolding add_round_key
last_added words block x = refl

-- two rounds by sums: the rounds of the block are done without what its own last byte adds, and then with what x adds
pub two_rounds_are : (words : List (List ℕ)) (block : List ℕ) (x : ℕ) (columns first second sums start : List ℕ) (column : ℕ)
    → state_bytes columns ≡ add_round_key words 0 block
    → state_bytes first ≡ full words 1 (state_bytes columns)
    → state_bytes second ≡ full words 2 (state_bytes first)
    → word_bytes column ≡ xor_word (xor_word (word_bytes (slice_index first 0)) (times_3 (s_box (byte_of (slice_index columns 3) 3)))) (times_3 (s_box (bit_xor x (slice_index (slice_index_or words 3 []) 3))))
    → word_bytes (slice_index sums 0) ≡ xor_word (word_bytes (slice_index second 0)) (times_0 (s_box (byte_of (slice_index first 0) 0)))
    → word_bytes (slice_index sums 1) ≡ xor_word (word_bytes (slice_index second 1)) (times_3 (s_box (byte_of (slice_index first 0) 3)))
    → word_bytes (slice_index sums 2) ≡ xor_word (word_bytes (slice_index second 2)) (times_2 (s_box (byte_of (slice_index first 0) 2)))
    → word_bytes (slice_index sums 3) ≡ xor_word (word_bytes (slice_index second 3)) (times_1 (s_box (byte_of (slice_index first 0) 1)))
    → word_bytes (slice_index start 0) ≡ xor_word (word_bytes (slice_index sums 0)) (times_0 (s_box (byte_of column 0)))
    → word_bytes (slice_index start 1) ≡ xor_word (word_bytes (slice_index sums 1)) (times_3 (s_box (byte_of column 3)))
    → word_bytes (slice_index start 2) ≡ xor_word (word_bytes (slice_index sums 2)) (times_2 (s_box (byte_of column 2)))
    → word_bytes (slice_index start 3) ≡ xor_word (word_bytes (slice_index sums 3)) (times_1 (s_box (byte_of column 1)))
    → state_bytes start ≡ state_after words (with_last block x) 2
unfolding state_after
two_rounds_are words block x columns first second sums start column columns_are first_are second_are column_is sums_0 sums_1 sums_2 sums_3 start_0 start_1 start_2 start_3 =
    let y : ℕ = bit_xor x (slice_index (slice_index_or words 3 []) 3) in
    let begun : add_round_key words 0 (with_last block x) ≡ with_last (state_bytes columns) y =
    last_added words block x ∙ ap (λ (state : List ℕ). with_last state y) (sym columns_are) in
    let without : ℕ → List ℕ → List ℕ → List ℕ → List ℕ = λ c state old new. xor_word (xor_word (column_at state c) old) new in
    let made : without 0 (full words 1 (state_bytes columns)) (times_3 (s_box (byte_of (slice_index columns 3) 3))) (times_3 (s_box y)) ≡ word_bytes column =
    (λ i. without 0 (sym first_are i) (times_3 (s_box (byte_of (slice_index columns 3) 3))) (times_3 (s_box y))) ∙ sym column_is in
    let once : full words 1 (with_last (state_bytes columns) y) ≡ word_bytes column ++ word_bytes (slice_index first 1) ++ word_bytes (slice_index first 2) ++ word_bytes (slice_index first 3) =
    first_is words columns y ∙ (λ i. made i ++ column_at (sym first_are i) 1 ++ column_at (sym first_are i) 2 ++ column_at (sym first_are i) 3) in
    let old_0 : List ℕ = times_0 (s_box (byte_of (slice_index first 0) 0)) in
    let old_1 : List ℕ = times_3 (s_box (byte_of (slice_index first 0) 3)) in
    let old_2 : List ℕ = times_2 (s_box (byte_of (slice_index first 0) 2)) in
    let old_3 : List ℕ = times_1 (s_box (byte_of (slice_index first 0) 1)) in
    let new_0 : List ℕ = times_0 (s_box (byte_of column 0)) in
    let new_1 : List ℕ = times_3 (s_box (byte_of column 3)) in
    let new_2 : List ℕ = times_2 (s_box (byte_of column 2)) in
    let new_3 : List ℕ = times_1 (s_box (byte_of column 1)) in
    let column_0 : without 0 (full words 2 (state_bytes first)) old_0 new_0 ≡ word_bytes (slice_index start 0) =
    (λ i. without 0 (sym second_are i) old_0 new_0) ∙ (λ i. xor_word (sym sums_0 i) new_0) ∙ sym start_0 in
    let column_1 : without 1 (full words 2 (state_bytes first)) old_1 new_1 ≡ word_bytes (slice_index start 1) =
    (λ i. without 1 (sym second_are i) old_1 new_1) ∙ (λ i. xor_word (sym sums_1 i) new_1) ∙ sym start_1 in
    let column_2 : without 2 (full words 2 (state_bytes first)) old_2 new_2 ≡ word_bytes (slice_index start 2) =
    (λ i. without 2 (sym second_are i) old_2 new_2) ∙ (λ i. xor_word (sym sums_2 i) new_2) ∙ sym start_2 in
    let column_3 : without 3 (full words 2 (state_bytes first)) old_3 new_3 ≡ word_bytes (slice_index start 3) =
    (λ i. without 3 (sym second_are i) old_3 new_3) ∙ (λ i. xor_word (sym sums_3 i) new_3) ∙ sym start_3 in
    let twice : full words 2 (word_bytes column ++ word_bytes (slice_index first 1) ++ word_bytes (slice_index first 2) ++ word_bytes (slice_index first 3)) ≡ state_bytes start =
    second_is words first column ∙ (λ i. column_0 i ++ column_1 i ++ column_2 i ++ column_3 i) in
    sym (ap (λ (state : List ℕ). full words 2 (full words 1 state)) begun ∙ ap (λ (state : List ℕ). full words 2 state) once ∙ twice)
