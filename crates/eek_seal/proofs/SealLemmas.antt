-- Unsealing undoes sealing, and both keep the length.
use Rattle.std.proofs.Common.{◌≡◌, ℕ, ◌+◌, List, length, get_or, bit_xor, refl, sym, ap, ◌∙◌, arith, map}
use Rattle.std.specs.List.{range_with_len}
use Rattle.std.proofs.lemmas.List.FromFn.{fill_by_all, get_or-map-range_with_len, length-map-range_with_len}
use Rattle.std.specs.Int.Bits.{xor_assoc, xor_self, xor_zero_l}
use Rattle.std.proofs.lemmas.Nat.{xor_comm}
use Rattle.aes_ctr.specs.Ctr.{ctr, stream_byte}
use Rattle.eek_seal.specs.Seal.{flipped, seal, unseal}

length-ctr : (key counter : List ℕ) (offset : ℕ) (bytes : List ℕ) → length (ctr key counter offset bytes) ≡ length bytes
unfolding ctr
length-ctr key counter offset bytes = length-map-range_with_len _ 0 (length bytes)

xor-xor : (a s : ℕ) → bit_xor (bit_xor a s) s ≡ a
xor-xor a s = rw (xor_assoc a s s, xor_self s, xor_comm a 0, xor_zero_l a) refl

-- counter mode undoes itself
ctr-ctr : (key counter : List ℕ) (offset : ℕ) (bytes : List ℕ) → ctr key counter offset (ctr key counter offset bytes) ≡ bytes
unfolding ctr
ctr-ctr key counter offset bytes =
    let stream : ℕ → ℕ = λ i. stream_byte key counter (offset + i) in
    let once : ℕ → ℕ = λ i. bit_xor (get_or bytes i 0) (stream_byte key counter (offset + i)) in
    let same_length : length (map once (range_with_len 0 (length bytes))) ≡ length bytes = length-map-range_with_len once 0 (length bytes) in
    rw same_length (sym (fill_by_all (λ i. bit_xor (get_or (map once (range_with_len 0 (length bytes))) i 0) (stream i)) bytes (length bytes) 0 refl
    (λ k within. sym (ap (λ (byte : ℕ). bit_xor byte (stream k)) (get_or-map-range_with_len once 0 (length bytes) k k 0 within (omega arith)) ∙ xor-xor (get_or bytes k 0) (stream k)))))

pub length-seal : (material iv dek : List ℕ) → length (seal material iv dek) ≡ length dek
unfolding seal
length-seal material iv dek = length-ctr material (flipped iv) 0 dek

pub length-unseal : (material iv sealed : List ℕ) → length (unseal material iv sealed) ≡ length sealed
unfolding unseal
length-unseal material iv sealed = length-ctr material (flipped iv) 0 sealed

pub unseal-seal : (material iv dek : List ℕ) → unseal material iv (seal material iv dek) ≡ dek
unfolding seal unseal
unseal-seal material iv dek = ctr-ctr material (flipped iv) 0 dek
