-- The bytes of a number in reverse order.
use Rattle.std.proofs.Common.{◌≡◌, ℕ, zero, suc, ◌+◌, ◌*◌, ◌/◌, ◌%◌, ◌^◌, ◌<◌, List, [], ◌∷◌, ◌++◌, length, get_or, slice_index, sym, ap, ◌∙◌, arith, add-zero}
use Rattle.std.specs.Int.{w64, w128, from_be_bytes, swap_bytes, to_be_bytes, to_le_bytes}
use Rattle.aes_core.specs.Aes.{cipher, eight_ciphers, with_last}
use Rattle.aes_ctr.specs.Ctr.{counter_block, eight_stream_blocks}
use Rattle.std.proofs.Math.Nat.{pow-succ', div-div-eq-div-mul}

abbrev AreBytes : List ℕ → Type 0
AreBytes [] = Unit {0}
AreBytes (b ∷ bs) = (b < 256) × AreBytes bs

-- the number with these bytes, lowest first
abbrev number : List ℕ → ℕ
number [] = 0
number (b ∷ bs) = b + 256 * number bs

byte_of-number : (bs : List ℕ) (i : ℕ) → AreBytes bs → i < length bs → number bs / 256 ^ i % 256 ≡ get_or bs i 0
byte_of-number [] i small within = absurd (omega arith)
byte_of-number (b ∷ bs) zero small within = omega (arith, small.0)
byte_of-number (b ∷ bs) (suc i) small within =
    let rest : (b + 256 * number bs) / 256 ≡ number bs = omega (arith, small.0) in
    let shifted : (b + 256 * number bs) / 256 ^ suc i ≡ number bs / 256 ^ i =
    ap (λ (m : ℕ). (b + 256 * number bs) / m) (pow-succ' 256 i) ∙ sym (div-div-eq-div-mul (b + 256 * number bs) 256 (256 ^ i)) ∙ ap (λ (m : ℕ). m / 256 ^ i) rest in
    ap (λ (m : ℕ). m % 256) shifted ∙ byte_of-number bs i small.1 (omega arith)

-- bytes read with the highest first and written with the lowest first are reversed
read_and_written : (n0 n1 n2 n3 n4 n5 n6 n7 : ℕ) → AreBytes (n7 ∷ n6 ∷ n5 ∷ n4 ∷ n3 ∷ n2 ∷ n1 ∷ n0 ∷ [])
    → to_le_bytes w64 (from_be_bytes w64 (n0 ∷ n1 ∷ n2 ∷ n3 ∷ n4 ∷ n5 ∷ n6 ∷ n7 ∷ [])) ≡ n7 ∷ n6 ∷ n5 ∷ n4 ∷ n3 ∷ n2 ∷ n1 ∷ n0 ∷ []
read_and_written n0 n1 n2 n3 n4 n5 n6 n7 small =
    let turned : List ℕ = n7 ∷ n6 ∷ n5 ∷ n4 ∷ n3 ∷ n2 ∷ n1 ∷ n0 ∷ [] in
    let is : from_be_bytes w64 (n0 ∷ n1 ∷ n2 ∷ n3 ∷ n4 ∷ n5 ∷ n6 ∷ n7 ∷ []) ≡ number turned = omega arith in
    let at_0 : number turned % 256 ≡ n7 = omega (arith, small.0) in
    let at_1 = byte_of-number turned 1 small (omega arith) in
    let at_2 = byte_of-number turned 2 small (omega arith) in
    let at_3 = byte_of-number turned 3 small (omega arith) in
    let at_4 = byte_of-number turned 4 small (omega arith) in
    let at_5 = byte_of-number turned 5 small (omega arith) in
    let at_6 = byte_of-number turned 6 small (omega arith) in
    let at_7 = byte_of-number turned 7 small (omega arith) in
    rw is (λ i. at_0 i ∷ at_1 i ∷ at_2 i ∷ at_3 i ∷ at_4 i ∷ at_5 i ∷ at_6 i ∷ at_7 i ∷ [])

-- a number whose bytes are swapped, written with its lowest byte first, has its own bytes with the highest first
pub swapped_bytes : (n : ℕ) → to_le_bytes w64 (swap_bytes w64 n) ≡ to_be_bytes w64 n
swapped_bytes n =
    read_and_written (n % 256) (n / 256 ^ 1 % 256) (n / 256 ^ 2 % 256) (n / 256 ^ 3 % 256) (n / 256 ^ 4 % 256) (n / 256 ^ 5 % 256) (n / 256 ^ 6 % 256) (n / 256 ^ 7 % 256)
    (omega arith, (omega arith, (omega arith, (omega arith, (omega arith, (omega arith, (omega arith, (omega arith, tt))))))))

-- the bytes of a number, highest first, are those of its high half and then those of its low half
pub halves : (n : ℕ) → to_be_bytes w64 (n / 2 ^ 64) ++ to_be_bytes w64 (n % 2 ^ 64) ≡ to_be_bytes w128 n
halves n =
    let at_15 : (n / 2 ^ 64) / 256 ^ 7 % 256 ≡ n / 256 ^ 15 % 256 = omega arith in
    let at_14 : (n / 2 ^ 64) / 256 ^ 6 % 256 ≡ n / 256 ^ 14 % 256 = omega arith in
    let at_13 : (n / 2 ^ 64) / 256 ^ 5 % 256 ≡ n / 256 ^ 13 % 256 = omega arith in
    let at_12 : (n / 2 ^ 64) / 256 ^ 4 % 256 ≡ n / 256 ^ 12 % 256 = omega arith in
    let at_11 : (n / 2 ^ 64) / 256 ^ 3 % 256 ≡ n / 256 ^ 11 % 256 = omega arith in
    let at_10 : (n / 2 ^ 64) / 256 ^ 2 % 256 ≡ n / 256 ^ 10 % 256 = omega arith in
    let at_9 : (n / 2 ^ 64) / 256 ^ 1 % 256 ≡ n / 256 ^ 9 % 256 = omega arith in
    let at_8 : (n / 2 ^ 64) % 256 ≡ n / 256 ^ 8 % 256 = omega arith in
    let at_7 : (n % 2 ^ 64) / 256 ^ 7 % 256 ≡ n / 256 ^ 7 % 256 = omega arith in
    let at_6 : (n % 2 ^ 64) / 256 ^ 6 % 256 ≡ n / 256 ^ 6 % 256 = omega arith in
    let at_5 : (n % 2 ^ 64) / 256 ^ 5 % 256 ≡ n / 256 ^ 5 % 256 = omega arith in
    let at_4 : (n % 2 ^ 64) / 256 ^ 4 % 256 ≡ n / 256 ^ 4 % 256 = omega arith in
    let at_3 : (n % 2 ^ 64) / 256 ^ 3 % 256 ≡ n / 256 ^ 3 % 256 = omega arith in
    let at_2 : (n % 2 ^ 64) / 256 ^ 2 % 256 ≡ n / 256 ^ 2 % 256 = omega arith in
    let at_1 : (n % 2 ^ 64) / 256 ^ 1 % 256 ≡ n / 256 ^ 1 % 256 = omega arith in
    let at_0 : (n % 2 ^ 64) % 256 ≡ n % 256 = omega arith in
    λ i. at_15 i ∷ at_14 i ∷ at_13 i ∷ at_12 i ∷ at_11 i ∷ at_10 i ∷ at_9 i ∷ at_8 i ∷ at_7 i ∷ at_6 i ∷ at_5 i ∷ at_4 i ∷ at_3 i ∷ at_2 i ∷ at_1 i ∷ at_0 i ∷ []

-- a number whose last byte is counted up without a carry
last_counted : (n i : ℕ) → n % 256 + i < 256 → to_be_bytes w128 (n + i) ≡ with_last (to_be_bytes w128 n) (n % 256 + i)
last_counted n i no_carry =
    let at_15 : (n + i) / 256 ^ 15 % 256 ≡ n / 256 ^ 15 % 256 = omega (arith, no_carry) in
    let at_14 : (n + i) / 256 ^ 14 % 256 ≡ n / 256 ^ 14 % 256 = omega (arith, no_carry) in
    let at_13 : (n + i) / 256 ^ 13 % 256 ≡ n / 256 ^ 13 % 256 = omega (arith, no_carry) in
    let at_12 : (n + i) / 256 ^ 12 % 256 ≡ n / 256 ^ 12 % 256 = omega (arith, no_carry) in
    let at_11 : (n + i) / 256 ^ 11 % 256 ≡ n / 256 ^ 11 % 256 = omega (arith, no_carry) in
    let at_10 : (n + i) / 256 ^ 10 % 256 ≡ n / 256 ^ 10 % 256 = omega (arith, no_carry) in
    let at_9 : (n + i) / 256 ^ 9 % 256 ≡ n / 256 ^ 9 % 256 = omega (arith, no_carry) in
    let at_8 : (n + i) / 256 ^ 8 % 256 ≡ n / 256 ^ 8 % 256 = omega (arith, no_carry) in
    let at_7 : (n + i) / 256 ^ 7 % 256 ≡ n / 256 ^ 7 % 256 = omega (arith, no_carry) in
    let at_6 : (n + i) / 256 ^ 6 % 256 ≡ n / 256 ^ 6 % 256 = omega (arith, no_carry) in
    let at_5 : (n + i) / 256 ^ 5 % 256 ≡ n / 256 ^ 5 % 256 = omega (arith, no_carry) in
    let at_4 : (n + i) / 256 ^ 4 % 256 ≡ n / 256 ^ 4 % 256 = omega (arith, no_carry) in
    let at_3 : (n + i) / 256 ^ 3 % 256 ≡ n / 256 ^ 3 % 256 = omega (arith, no_carry) in
    let at_2 : (n + i) / 256 ^ 2 % 256 ≡ n / 256 ^ 2 % 256 = omega (arith, no_carry) in
    let at_1 : (n + i) / 256 ^ 1 % 256 ≡ n / 256 ^ 1 % 256 = omega (arith, no_carry) in
    let at_0 : (n + i) % 256 ≡ n % 256 + i = omega (arith, no_carry) in
    λ p. at_15 p ∷ at_14 p ∷ at_13 p ∷ at_12 p ∷ at_11 p ∷ at_10 p ∷ at_9 p ∷ at_8 p ∷ at_7 p ∷ at_6 p ∷ at_5 p ∷ at_4 p ∷ at_3 p ∷ at_2 p ∷ at_1 p ∷ at_0 p ∷ []

-- the counter block i blocks later differs in the last byte alone, if there is no carry from it
pub counted_up : (counter : List ℕ) (j i : ℕ) → slice_index (counter_block counter j) 15 + i < 256
    → with_last (counter_block counter j) (slice_index (counter_block counter j) 15 + i) ≡ counter_block counter (j + i)
unfolding counter_block
counted_up counter j i no_carry =
    let first : ℕ = from_be_bytes w128 counter in
    let n : ℕ = (first + j) % 2 ^ 128 in
    let no_wrap : n + i ≡ (first + (j + i)) % 2 ^ 128 = omega (arith, no_carry) in
    sym (last_counted n i no_carry) ∙ ap (λ (m : ℕ). to_be_bytes w128 m) no_wrap

-- so eight counter blocks in a row are encrypted at once
pub eight_are : (key counter block : List ℕ) (j : ℕ) → block ≡ counter_block counter j → slice_index block 15 + 7 < 256 → eight_ciphers key block ≡ eight_stream_blocks key counter j
eight_are key counter block j block_is no_carry =
    let first : List ℕ = counter_block counter j in
    let room : slice_index first 15 + 7 < 256 = rw (← block_is) no_carry in
    let at : (i : ℕ) → i < 8 → cipher key (with_last first (slice_index first 15 + i)) ≡ cipher key (counter_block counter (j + i)) =
    λ i below. ap (λ (b : List ℕ). cipher key b) (counted_up counter j i (omega (arith, room))) in
    let at_0 : cipher key (with_last first (slice_index first 15 + 0)) ≡ cipher key (counter_block counter j) =
    at 0 (omega arith) ∙ ap (λ (m : ℕ). cipher key (counter_block counter m)) (add-zero j) in
    ap (λ (b : List ℕ). eight_ciphers key b) block_is
    ∙ (λ p. at_0 p ∷ at 1 (omega arith) p ∷ at 2 (omega arith) p ∷ at 3 (omega arith) p ∷ at 4 (omega arith) p ∷ at 5 (omega arith) p ∷ at 6 (omega arith) p ∷ at 7 (omega arith) p ∷ [])
