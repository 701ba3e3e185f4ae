-- The words of a key and of its expansion.
use Rattle.std.proofs.Common.{◌≡◌, ℕ, zero, suc, ◌+◌, ◌-◌, ◌*◌, ◌/◌, ◌<◌, ◌≤◌, List, [], ◌∷◌, ◌++◌, length, get_or, take, set, slice_index, slice_index_or, refl, sym, ap, ◌∙◌, arith, length-append, add-zero, add-one, append_assoc}
use Rattle.std.proofs.Math.Seq.{take-suc-set, take-suc}
use Rattle.std.proofs.lemmas.List.{get_or-take, get_or_append_left, get_or-append_right, take_all}
use Rattle.aes_core.specs.Aes.{cipher, encrypted, key_expansion, expanded_key, key_bytes, key_term, key_words, with_next_word, word, xor_word}

pub length-key_words : (n : ℕ) (key : List ℕ) → length (key_words n key) ≡ n
unfolding key_words
length-key_words zero key = refl
length-key_words (suc n) key = simp length-append (omega (arith, length-key_words n key))

pub length-expanded_key : (nk : ℕ) (key : List ℕ) (n : ℕ) → length (expanded_key nk key n) ≡ nk + n
unfolding expanded_key with_next_word
length-expanded_key nk key zero = omega (arith, length-key_words nk key)
length-expanded_key nk key (suc n) = simp length-append (omega (arith, length-expanded_key nk key n))

-- one more word is copied from the key
pub key_words-suc : (key : List ℕ) (words : List (List ℕ)) (i : ℕ) (next : List ℕ) → i < length words → take i words ≡ key_words i key
    → next ≡ slice_index key (4 * i) ∷ slice_index key (4 * i + 1) ∷ slice_index key (4 * i + 2) ∷ slice_index key (4 * i + 3) ∷ []
    → take (i + 1) (set words i next) ≡ key_words (suc i) key
unfolding key_words
key_words-suc key words i next within copied next_is =
    let at_four_i : 4 * i + 0 ≡ 4 * i = add-zero (4 * i) in
    let more : i + 1 ≡ suc i = add-one i in
    rw (more, take-suc-set words i next within, copied, next_is, at_four_i) refl

-- one more word is made from the earlier words
pub expanded_key-suc : (nk : ℕ) (key : List ℕ) (words : List (List ℕ)) (i j : ℕ) (next : List ℕ) → 0 < nk → i < length words → i ≡ nk + j
    → take i words ≡ expanded_key nk key j
    → next ≡ xor_word (slice_index_or words (i - nk) []) (key_term nk i (slice_index_or words (i - 1) []))
    → take (i + 1) (set words i next) ≡ expanded_key nk key (suc j)
unfolding expanded_key with_next_word
expanded_key-suc nk key words i j next some within place made next_is =
    let long : length (expanded_key nk key j) ≡ i = omega (arith, length-expanded_key nk key j) in
    rw (add-one, take-suc-set words i next within, long, ← made, next_is, get_or-take i words (i - nk) [] (omega arith), get_or-take i words (i - 1) [] (omega arith)) refl

key_bytes-append : (n : ℕ) (a b : List (List ℕ)) → n ≤ length a → key_bytes n (a ++ b) ≡ key_bytes n a
unfolding key_bytes
key_bytes-append zero a b within = refl
key_bytes-append (suc n) a b within = rw (key_bytes-append n a b (omega arith), get_or_append_left a b [] n (omega arith)) refl

-- one more word of a key has four more bytes
key_bytes-key_words-suc : (n : ℕ) (key : List ℕ) → key_bytes (suc n) (key_words (suc n) key) ≡ key_bytes n (key_words n key) ++ word (λ r. slice_index key (4 * n + r))
unfolding key_bytes key_words
key_bytes-key_words-suc n key =
    let next : List ℕ = word (λ r. slice_index key (4 * n + r)) in
    let none : n - n ≡ 0 = omega arith in
    let last : get_or (key_words n key ++ next ∷ []) n [] ≡ next = rw (get_or-append_right (key_words n key) (next ∷ []) n n [] (length-key_words n key) (omega arith), none) refl in
    rw (key_bytes-append n (key_words n key) (next ∷ []) (omega (arith, length-key_words n key)), last) refl

length-key_bytes-key_words : (n : ℕ) (key : List ℕ) → length (key_bytes n (key_words n key)) ≡ 4 * n
unfolding key_bytes
length-key_bytes-key_words zero key = refl
length-key_bytes-key_words (suc n) key = rw (key_bytes-key_words-suc n key) (simp length-append (omega (arith, length-key_bytes-key_words n key)))

take-four : (bytes : List ℕ) (m : ℕ) → m + 4 ≤ length bytes
    → take (m + 4) bytes ≡ take m bytes ++ (get_or bytes m 0 ∷ get_or bytes (m + 1) 0 ∷ get_or bytes (m + 2) 0 ∷ get_or bytes (m + 3) 0 ∷ [])
take-four bytes m within =
    let suc_3 : m + 4 ≡ suc (m + 3) = omega arith in
    let suc_2 : m + 3 ≡ suc (m + 2) = omega arith in
    let suc_1 : m + 2 ≡ suc (m + 1) = omega arith in
    let suc_0 : m + 1 ≡ suc m = omega arith in
    let take_3 = take-suc bytes (m + 3) 0 (omega arith) in
    let take_2 = rw (← suc_2) at (take-suc bytes (m + 2) 0 (omega arith)) in
    let take_1 = rw (← suc_1) at (take-suc bytes (m + 1) 0 (omega arith)) in
    let take_0 = rw (← suc_0) at (take-suc bytes m 0 (omega arith)) in
    rw (suc_3, take_3, take_2, take_1, take_0) (simp append_assoc)

key_bytes-key_words : (n : ℕ) (key : List ℕ) → 4 * n ≤ length key → key_bytes n (key_words n key) ≡ take (4 * n) key
unfolding key_bytes
key_bytes-key_words zero key within = refl
key_bytes-key_words (suc n) key within =
    let four_more : 4 * suc n ≡ 4 * n + 4 = omega arith in
    rw (key_bytes-key_words-suc n key, key_bytes-key_words n key (omega arith), four_more, take-four key (4 * n) (omega arith), add-zero) refl

-- the expansion begins with the key's own words
key_bytes-expanded_key : (nk : ℕ) (key : List ℕ) (n : ℕ) → key_bytes nk (expanded_key nk key n) ≡ key_bytes nk (key_words nk key)
unfolding expanded_key with_next_word
key_bytes-expanded_key nk key zero = refl
key_bytes-expanded_key nk key (suc n) = key_bytes-append nk (expanded_key nk key n) _ (omega (arith, length-expanded_key nk key n)) ∙ key_bytes-expanded_key nk key n

-- words that are a key's expansion begin with the key
pub key_bytes-is : (nk : ℕ) (key : List ℕ) (words : List (List ℕ)) → length key ≡ 4 * nk → words ≡ expanded_key nk key (3 * nk + 28) → key_bytes nk words ≡ key
key_bytes-is nk key words long expanded =
    rw expanded (key_bytes-expanded_key nk key (3 * nk + 28) ∙ key_bytes-key_words nk key (omega arith) ∙ take_all (4 * nk) key (omega arith))

-- so they are the expansion of the bytes that they begin with
pub expanded_from_key_bytes : (nk : ℕ) (key : List ℕ) (words : List (List ℕ)) → length key ≡ 4 * nk → words ≡ expanded_key nk key (3 * nk + 28)
    → words ≡ expanded_key nk (key_bytes nk words) (3 * nk + 28)
expanded_from_key_bytes nk key words long expanded = rw (key_bytes-is nk key words long expanded) expanded

-- encryption under such words is the cipher under the key that they begin with
pub encrypted-is : (nk : ℕ) (words : List (List ℕ)) (key block : List ℕ) → key ≡ key_bytes nk words → words ≡ expanded_key nk (key_bytes nk words) (3 * nk + 28)
    → encrypted words (nk + 6) block ≡ cipher key block
unfolding cipher key_expansion
encrypted-is nk words key block key_is expanded =
    let same_bytes : key_bytes nk words ≡ key_bytes nk (key_words nk (key_bytes nk words)) =
    (let P : List (List ℕ) → List ℕ = λ w. key_bytes nk w in ap P expanded) ∙ key_bytes-expanded_key nk (key_bytes nk words) (3 * nk + 28) in
    let long : length key ≡ 4 * nk = rw (key_is, same_bytes) (length-key_bytes-key_words nk (key_bytes nk words)) in
    let same_nk : length key / 4 ≡ nk = omega arith in
    let same_words : expanded_key nk key (3 * nk + 28) ≡ words = rw key_is (sym expanded) in
    rw (same_nk, same_words) refl
