-- Counter mode byte by byte: pieces of a message, and what undoes it.
use Rattle.std.proofs.Common.{◌≡◌, ℕ, zero, suc, ◌+◌, ◌<◌, List, [], ◌∷◌, ◌++◌, length, take, drop, get_or, bit_xor, Option, None, Some, refl, sym, ap, ◌∙◌, arith}
use Rattle.std.proofs.lemmas.List.FromFn.{fill_by_all}
use Rattle.std.specs.Int.Bits.{xor_assoc, xor_self, xor_zero_l}
use Rattle.std.proofs.lemmas.Nat.{xor_comm}
use Rattle.hk_base.specs.Disk.{piece}
use Rattle.aes_core.specs.AnyAes.{key_of}
use Rattle.aes_ctr.specs.Ctr.{ctr, stream_byte}
use Rattle.body_stream.specs.Forms.{coded_form, stored_form}
use Rattle.body_stream.specs.declared.coding.Coding.{Coding}
use Rattle.body_stream.specs.declared.coding.Coding.TheVariants.{Plain, Keyed}
use Rattle.body_stream.specs.declared.keys.BodyKey.{BodyKey}

-- the bytes, each xored with its byte of a stream
abbrev each : (ℕ → ℕ) → ℕ → List ℕ → List ℕ
each s o [] = []
each s o (x ∷ xs) = bit_xor x (s o) ∷ each s (o + 1) xs

length-each : (s : ℕ → ℕ) (o : ℕ) (xs : List ℕ) → length (each s o xs) ≡ length xs
length-each s o [] = refl
length-each s o (x ∷ xs) = ap suc (length-each s (o + 1) xs)

get-each : (s : ℕ → ℕ) (o : ℕ) (xs : List ℕ) (i : ℕ) → i < length xs → get_or (each s o xs) i 0 ≡ bit_xor (get_or xs i 0) (s (o + i))
get-each s o [] i below = absurd (omega arith)
get-each s o (x ∷ xs) zero below = ap (λ (n : ℕ). bit_xor x (s n)) (omega arith)
get-each s o (x ∷ xs) (suc i) below = get-each s (o + 1) xs i (omega arith) ∙ ap (λ (n : ℕ). bit_xor (get_or xs i 0) (s n)) (omega arith)

each-append : (s : ℕ → ℕ) (o : ℕ) (xs ys : List ℕ) → each s o (xs ++ ys) ≡ each s o xs ++ each s (o + length xs) ys
each-append s o [] ys = ap (λ (n : ℕ). each s n ys) (omega arith)
each-append s o (x ∷ xs) ys = ap (λ (l : List ℕ). bit_xor x (s o) ∷ l) (each-append s (o + 1) xs ys ∙ ap (λ (n : ℕ). each s (o + 1) xs ++ each s n ys) (omega arith))

each-take : (s : ℕ → ℕ) (o n : ℕ) (xs : List ℕ) → take n (each s o xs) ≡ each s o (take n xs)
each-take s o zero xs = refl
each-take s o (suc n) [] = refl
each-take s o (suc n) (x ∷ xs) = ap (λ (l : List ℕ). bit_xor x (s o) ∷ l) (each-take s (o + 1) n xs)

each-drop : (s : ℕ → ℕ) (o n : ℕ) (xs : List ℕ) → drop n (each s o xs) ≡ each s (o + n) (drop n xs)
each-drop s o zero xs = ap (λ (m : ℕ). each s m xs) (omega arith)
each-drop s o (suc n) [] = refl
each-drop s o (suc n) (x ∷ xs) = each-drop s (o + 1) n xs ∙ ap (λ (m : ℕ). each s m (drop n xs)) (omega arith)

xor-xor : (a s : ℕ) → bit_xor (bit_xor a s) s ≡ a
xor-xor a s = rw (xor_assoc a s s, xor_self s, xor_comm a 0, xor_zero_l a) refl

each-each : (s : ℕ → ℕ) (o : ℕ) (xs : List ℕ) → each s o (each s o xs) ≡ xs
each-each s o [] = refl
each-each s o (x ∷ xs) = λ i. xor-xor x (s o) i ∷ each-each s (o + 1) xs i

ctr-each : (key counter : List ℕ) (o : ℕ) (xs : List ℕ) → ctr key counter o xs ≡ each (stream_byte key counter) o xs
unfolding ctr
ctr-each key counter o xs =
    sym (fill_by_all (λ i. bit_xor (get_or xs i 0) (stream_byte key counter (o + i))) (each (stream_byte key counter) o xs) (length xs) 0 (length-each (stream_byte key counter) o xs)
    (λ k below. get-each (stream_byte key counter) o xs k below))

length-ctr : (key counter : List ℕ) (o : ℕ) (xs : List ℕ) → length (ctr key counter o xs) ≡ length xs
length-ctr key counter o xs = ap length (ctr-each key counter o xs) ∙ length-each _ o xs

ctr-append : (key counter : List ℕ) (o : ℕ) (xs ys : List ℕ) → ctr key counter o (xs ++ ys) ≡ ctr key counter o xs ++ ctr key counter (o + length xs) ys
ctr-append key counter o xs ys =
    ctr-each key counter o (xs ++ ys) ∙ each-append (stream_byte key counter) o xs ys
    ∙ sym (λ i. ctr-each key counter o xs i ++ ctr-each key counter (o + length xs) ys i)

ctr-piece : (key counter : List ℕ) (from n : ℕ) (xs : List ℕ) → ctr key counter from (piece from n (ctr key counter 0 xs)) ≡ piece from n xs
ctr-piece key counter from n xs =
    let s = stream_byte key counter in
    ctr-each key counter from (piece from n (ctr key counter 0 xs))
    ∙ ap (each s from) (
    ap (piece from n) (ctr-each key counter 0 xs)
    ∙ ap (take n) (each-drop s 0 from xs ∙ ap (λ (m : ℕ). each s m (drop from xs)) (omega arith))
    ∙ each-take s from n (drop from xs)
    )
    ∙ each-each s from (take n (drop from xs))

pub length-coded : (c : Coding) (o : ℕ) (xs : List ℕ) → length (coded_form c o xs) ≡ length xs
length-coded Plain o xs = refl
length-coded (Keyed aes counter) o xs = length-ctr (key_of aes) counter o xs

pub coded-nil : (c : Coding) (o : ℕ) → coded_form c o [] ≡ []
coded-nil Plain o = refl
coded-nil (Keyed aes counter) o = ctr-each (key_of aes) counter o []

pub coded-append : (c : Coding) (o : ℕ) (xs ys : List ℕ) → coded_form c o (xs ++ ys) ≡ coded_form c o xs ++ coded_form c (o + length xs) ys
coded-append Plain o xs ys = refl
coded-append (Keyed aes counter) o xs ys = ctr-append (key_of aes) counter o xs ys

-- a piece of the stored form, decoded, is that piece of the file
pub coded-piece : (c : Coding) (from n : ℕ) (xs : List ℕ) → coded_form c from (piece from n (coded_form c 0 xs)) ≡ piece from n xs
coded-piece Plain from n xs = refl
coded-piece (Keyed aes counter) from n xs = ctr-piece (key_of aes) counter from n xs

pub length-stored : (key : Option BodyKey) (o : ℕ) (xs : List ℕ) → length (stored_form key o xs) ≡ length xs
length-stored None o xs = refl
length-stored (Some key) o xs = length-ctr key.dek key.iv o xs

pub stored-append : (key : Option BodyKey) (o : ℕ) (xs ys : List ℕ) → stored_form key o (xs ++ ys) ≡ stored_form key o xs ++ stored_form key (o + length xs) ys
stored-append None o xs ys = refl
stored-append (Some key) o xs ys = ctr-append key.dek key.iv o xs ys

pub stored-piece : (key : Option BodyKey) (from n : ℕ) (xs : List ℕ) → stored_form key from (piece from n (stored_form key 0 xs)) ≡ piece from n xs
stored-piece None from n xs = refl
stored-piece (Some key) from n xs = ctr-piece key.dek key.iv from n xs
