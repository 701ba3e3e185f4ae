-- The words of a seed of bytes.
use Rattle.std.proofs.Common.{◌≡◌, ℕ, ◌+◌, ◌*◌, ◌^◌, ◌<◌, ◌≤◌, List, ◌++◌, length, take, get_or, arith}
use Rattle.std.proofs.lemmas.Grind.{common_steps}
use Rattle.std.proofs.lemmas.Nat.{from_le_bytes-to_le_bytes_4}
use Rattle.std.specs.Int.{w32, to_le_bytes}
use Rattle.rand_core.specs.Steps.{u32_at}

byte_before : (s after : List ℕ) (n k : ℕ) → k < n → n ≤ length s → get_or (take n s ++ after) k 0 ≡ get_or s k 0
byte_before s after n k below within = grind (arith, common_steps)

byte_of : (s mid after : List ℕ) (n k at : ℕ) → at ≡ n + k → n ≤ length s → k < length mid → get_or (take n s ++ (mid ++ after)) at 0 ≡ get_or mid k 0
byte_of s mid after n k at is_at within inside = grind (arith, common_steps)

pub word_before : (s after : List ℕ) (i j : ℕ) → j < i → 4 * i ≤ length s → u32_at (take (4 * i) s ++ after) j ≡ u32_at s j
unfolding u32_at
word_before s after i j below within =
    let e0 = byte_before s after (4 * i) (4 * j) (omega arith) within in
    let e1 = byte_before s after (4 * i) (4 * j + 1) (omega arith) within in
    let e2 = byte_before s after (4 * i) (4 * j + 2) (omega arith) within in
    let e3 = byte_before s after (4 * i) (4 * j + 3) (omega arith) within in
    cc

pub word_put : (s after : List ℕ) (i word : ℕ) → 4 * i ≤ length s → word < 2 ^ 32 → u32_at (take (4 * i) s ++ (to_le_bytes w32 word ++ after)) i ≡ word
unfolding u32_at
word_put s after i word within fits =
    let bytes = to_le_bytes w32 word in
    let e0 = byte_of s bytes after (4 * i) 0 (4 * i) (omega arith) within (omega arith) in
    let e1 = byte_of s bytes after (4 * i) 1 (4 * i + 1) (omega arith) within (omega arith) in
    let e2 = byte_of s bytes after (4 * i) 2 (4 * i + 2) (omega arith) within (omega arith) in
    let e3 = byte_of s bytes after (4 * i) 3 (4 * i + 3) (omega arith) within (omega arith) in
    omega (arith, e0, e1, e2, e3, from_le_bytes-to_le_bytes_4 word fits)
