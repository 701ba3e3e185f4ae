-- Steps of an encryption in place.
use Rattle.std.proofs.Common.{◌≡◌, ℕ, ◌+◌, ◌-◌, ◌*◌, ◌/◌, ◌%◌, ◌<◌, ◌≤◌, ◌≢◌, inl, inr, set, below_more, get_or-set_other, get_or-set_same, List, length, get_or, bit_xor, refl, sym, ◌∙◌, arith}
use Rattle.std.proofs.lemmas.Bool.{cases_lt}
use Rattle.std.proofs.lemmas.Simd.{get_or-put_chunk_below, get_or-put_chunk_at, get_or-put_chunk_above, get_or-zip2, get_or-chunk, length-zip2, length-chunk, length-put_chunk}
use Rattle.std.proofs.Math.ListN.{length-set}
use Rattle.std.proofs.lemmas.List.FromFn.{fill_by_all}
use lib.Lanes.{zip2, chunk, put_chunk}
use Rattle.aes_core.specs.Aes.{add_round_key, cipher, encrypted}
use Rattle.aes_ctr.specs.Ctr.{counter_block, ctr, stream_byte}
use Rattle.aes_ctr.specs.Progress.{IsUpTo}

pub length-cipher : (key block : List ℕ) → length (cipher key block) ≡ 16
unfolding cipher encrypted add_round_key
length-cipher key block = refl

-- a block of the stream is xored in at a block boundary
pub block_done : (key counter : List ℕ) (offset : ℕ) (old before after stream : List ℕ) (j at to : ℕ) → offset + at ≡ 16 * j → to ≡ at + 16 → to ≤ length before
    → stream ≡ cipher key (counter_block counter j)
    → after ≡ put_chunk at before (zip2 bit_xor (chunk at 16 before) stream)
    → IsUpTo key counter offset old before at → IsUpTo key counter offset old after to
unfolding stream_byte
block_done key counter offset old before after stream j at to border step room stream_is is h =
    let long : length stream ≡ 16 = rw stream_is (length-cipher key (counter_block counter j)) in
    let chunk_long : length (chunk at 16 before) ≡ 16 = length-chunk at 16 before (omega arith) in
    let new : List ℕ = zip2 bit_xor (chunk at 16 before) stream in
    let new_long : length new ≡ 16 = length-zip2 bit_xor (chunk at 16 before) stream (chunk_long ∙ sym long) ∙ chunk_long in
    record {
      same_length = rw is (length-put_chunk at before new ∙ h.same_length);
      done = λ k within. elim (cases_lt k at) [
        | inl below ↦ rw (is, get_or-put_chunk_below at before new k 0 below) (h.done k below)
        | inr above ↦
            let split : k ≡ at + (k - at) = omega arith in
            let same_block : (offset + k) / 16 ≡ j = omega arith in
            let same_place : (offset + k) % 16 ≡ k - at = omega arith in
            let there = get_or-put_chunk_at at before new (k - at) 0 (omega arith) (omega arith) in
            let here : get_or after k 0 ≡ get_or new (k - at) 0 = rw is (rw (← split) at there) in
            let byte = get_or-zip2 bit_xor (chunk at 16 before) stream (k - at) 0 0 0 (omega arith) (omega arith) in
            let was = rw (← split) at (get_or-chunk at 16 before (k - at) 0 (omega arith)) in
            rw (here, byte, was, h.rest k above, same_block, same_place, stream_is) refl
      ];
      rest = λ k behind. rw (is, get_or-put_chunk_above at before new k 0 (omega arith)) (h.rest k (omega arith));
    }

-- a byte is xored with its byte of the stream
pub byte_done : (key counter : List ℕ) (offset : ℕ) (old bytes : List ℕ) (i byte : ℕ) → i < length bytes
    → byte ≡ stream_byte key counter (offset + i)
    → IsUpTo key counter offset old bytes i → IsUpTo key counter offset old (set bytes i (bit_xor (get_or bytes i 0) byte)) (i + 1)
byte_done key counter offset old bytes i byte within is h =
    record {
      same_length = simp length-set h.same_length;
      done = below_more _ _
          (λ k below. let other : k ≢ i = omega arith in rw get_or-set_other (h.done k below))
          (rw (get_or-set_same, h.rest i (omega arith), is) refl);
      rest = λ k behind. let other : k ≢ i = omega arith in rw get_or-set_other (h.rest k (omega arith));
    }

pub all_done : (key counter : List ℕ) (offset : ℕ) (old bytes : List ℕ) (n : ℕ) → length old ≤ n → IsUpTo key counter offset old bytes n → bytes ≡ ctr key counter offset old
unfolding ctr
all_done key counter offset old bytes n end h =
    fill_by_all (λ k. bit_xor (get_or old k 0) (stream_byte key counter (offset + k))) bytes (length old) 0 h.same_length (λ k below. h.done k (omega arith))

pub none_done : (key counter : List ℕ) (offset : ℕ) (old : List ℕ) → IsUpTo key counter offset old old 0
none_done key counter offset old = record { same_length = refl; done = λ k below. absurd (omega arith); rest = λ k behind. refl }
