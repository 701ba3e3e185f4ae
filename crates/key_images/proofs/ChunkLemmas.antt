-- Materials one after the other.
use Rattle.std.proofs.Common.{◌≡◌, ℕ, zero, suc, ◌+◌, ◌-◌, ◌*◌, ◌<◌, List, [], ◌∷◌, ◌++◌, length, take, drop, refl, sym, ap, ◌∙◌, arith, length-append, length-drop, length-take}
use Rattle.std.specs.List.{AllByRecursion, concat}
use Rattle.std.proofs.Math.Seq.{take-append_seam, drop-append_seam}
use Rattle.std.proofs.lemmas.List.{take-append-drop, nil_from_length}
use Rattle.std.proofs.Math.Seq.{drop-append-add}
use Rattle.std.proofs.lemmas.List.{append-nil}
use Rattle.key_images.specs.Chunks.{chunks}
use Rattle.key_images.specs.Places.{last_of, newest_of}

abbrev pub AreLong : ℕ → List (List ℕ) → Type 0
AreLong n pieces = AllByRecursion (λ (m : List ℕ). length m ≡ n) pieces

pub length_concat : (n : ℕ) (pieces : List (List ℕ)) → AreLong n pieces → length (concat pieces) ≡ length pieces * n
length_concat n [] long = omega arith
length_concat n (m ∷ pieces) long = omega (arith, length-append m (concat pieces), long.0, length_concat n pieces long.1)

pub length_chunks : (len n : ℕ) (bytes : List ℕ) → length (chunks len n bytes) ≡ n
length_chunks len zero bytes = refl
length_chunks len (suc n) bytes = ap suc (length_chunks len n (drop len bytes))

-- the bytes after the first piece
shorter : (len n : ℕ) (bytes : List ℕ) → length bytes ≡ suc n * len → length (drop len bytes) ≡ n * len
shorter len n bytes long = omega (arith, length-drop len bytes, long)

pub chunks_long : (len n : ℕ) (bytes : List ℕ) → length bytes ≡ n * len → AreLong len (chunks len n bytes)
chunks_long len zero bytes long = tt
chunks_long len (suc n) bytes long = (omega (arith, length-take len bytes, long), chunks_long len n (drop len bytes) (shorter len n bytes long))

pub chunks_join : (len n : ℕ) (bytes : List ℕ) → length bytes ≡ n * len → concat (chunks len n bytes) ≡ bytes
chunks_join len zero bytes long = sym (nil_from_length bytes (omega (arith, long)))
chunks_join len (suc n) bytes long = ap (λ (w : List ℕ). take len bytes ++ w) (chunks_join len n (drop len bytes) (shorter len n bytes long)) ∙ take-append-drop len bytes

pub chunks_of : (len : ℕ) (pieces : List (List ℕ)) → AreLong len pieces → chunks len (length pieces) (concat pieces) ≡ pieces
chunks_of len [] long = refl
chunks_of len (m ∷ pieces) long =
    let first : take len (m ++ concat pieces) ≡ m = ap (λ n. take n (m ++ concat pieces)) (sym long.0) ∙ take-append_seam m (concat pieces) in
    let rest : drop len (m ++ concat pieces) ≡ concat pieces = ap (λ n. drop n (m ++ concat pieces)) (sym long.0) ∙ drop-append_seam m (concat pieces) in
    ap (λ (w : List ℕ). w ∷ chunks len (length pieces) (drop len (m ++ concat pieces))) first
    ∙ ap (λ (w : List ℕ). m ∷ chunks len (length pieces) w) rest
    ∙ ap (λ (w : List (List ℕ)). m ∷ w) (chunks_of len pieces long.1)

one_more : (n len : ℕ) → suc n * len ≡ len + n * len
one_more n len = omega arith

-- the last piece
pub newest_drop : (len : ℕ) (m : List ℕ) (pieces : List (List ℕ)) → AreLong len (m ∷ pieces) → drop (length pieces * len) (concat (m ∷ pieces)) ≡ last_of m pieces
newest_drop len m [] long = ap (λ n. drop n (m ++ [])) none ∙ append-nil m
  where
    none : 0 * len ≡ 0
    none = omega arith
newest_drop len m (n ∷ pieces) long =
    let split : suc (length pieces) * len ≡ length m + length pieces * len = one_more (length pieces) len ∙ ap (λ k. k + length pieces * len) (sym long.0) in
    ap (λ k. drop k (m ++ (n ++ concat pieces))) split
    ∙ drop-append-add m (n ++ concat pieces) (length pieces * len)
    ∙ newest_drop len n pieces long.1

-- and of bytes that are pieces
pub newest_chunk : (len n : ℕ) (bytes : List ℕ) → 0 < n → length bytes ≡ n * len → newest_of (chunks len n bytes) ≡ drop ((n - 1) * len) bytes
newest_chunk len zero bytes some long = absurd (omega (arith, some))
newest_chunk len (suc n) bytes some long =
    let count : (suc n - 1) ≡ length (chunks len n (drop len bytes)) = omega (arith, length_chunks len n (drop len bytes)) in
    sym (newest_drop len (take len bytes) (chunks len n (drop len bytes)) (chunks_long len (suc n) bytes long))
    ∙ ap (λ k. drop (k * len) (concat (chunks len (suc n) bytes))) (sym count)
    ∙ ap (λ (w : List ℕ). drop ((suc n - 1) * len) w) (chunks_join len (suc n) bytes long)

pub last_long : (n len : ℕ) → 0 < n → n * len - (n - 1) * len ≡ len
last_long zero len some = absurd (omega (arith, some))
last_long (suc n) len some =
    let count : (suc n - 1) ≡ n = omega arith in
    ap (λ k. suc n * len - k * len) count ∙ omega (arith, one_more n len)
