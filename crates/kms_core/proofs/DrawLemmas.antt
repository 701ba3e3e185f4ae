-- Words drawn one after another.
use Rattle.std.proofs.Common.{◌≡◌, ℕ, zero, suc, ◌+◌, ◌*◌, ◌/◌, ◌<◌, ◌≤◌, List, [], ◌∷◌, ◌++◌, length, take, refl, ap, sym, ◌∙◌, subst, true, ◌⊎◌, inl, inr, add-one, arith, append_assoc, length-append, mul-le-mul_right}
use Rattle.std.proofs.lemmas.Bool.Decides.{nat_tests}
use Rattle.std.proofs.lemmas.List.{take_at}
use Rattle.std.specs.Int.{w32, to_le_bytes}
use Rattle.hk_base.specs.Names.{is_key_length}
use Rattle.hk_base.specs.declared.names.Edek.{Edek}
use Rattle.hk_base.specs.declared.names.VersionName.{VersionName}
use Rattle.eek_seal.specs.Seal.{seal}
use Rattle.eek_seal.specs.declared.tickets.Ticket.{Ticket}
use Rattle.kms_core.specs.Draws.{drawn, drawn_dek, drawn_iv, sealed_with, drawn_edek, drawn_edeks, place_of_draw, words_of_draw}
use Rattle.kms_core.specs.Steps.{Drew, DrewKeys, DrewSome}
use Rattle.kms_core.specs.declared.drawing.CurrentVersion.{CurrentVersion}
use borrow.Rule.Slice.PartMut.{put_mid, post_of}

pub length-drawn : (words : ℕ → ℕ) (place n : ℕ) → length (drawn words place n) ≡ 4 * n
length-drawn words place zero = refl
length-drawn words place (suc n) = omega (arith, length-append (drawn words place n) (to_le_bytes w32 (words (place + n))), length-drawn words place n)

-- one more word after those drawn
pub one_more : (words : ℕ → ℕ) (i k : ℕ) (bytes word : List ℕ) → take (4 * i) bytes ≡ drawn words 0 i → word ≡ to_le_bytes w32 (words (0 + i)) → take (4 * (i + 1)) (put_mid (4 * i) k bytes word) ≡ drawn words 0 (i + 1)
one_more words i k bytes word front is =
    rw (add-one, ← front, ← is) (rw (← append_assoc) (take_at (take (4 * i) bytes ++ word) (post_of (4 * i) k bytes) (4 * suc i)
    (omega (arith, length-append (take (4 * i) bytes) word, ap length front, length-drawn words 0 i, ap length is))))

-- what is drawn after some words is drawn that much further on in the stream
pub drawn_ahead : (words words' : ℕ → ℕ) (ahead place n : ℕ) → Drew words words' ahead → drawn words' place n ≡ drawn words (ahead + place) n
drawn_ahead words words' ahead place zero rest = refl
drawn_ahead words words' ahead place (suc n) rest =
    ap (λ bytes. bytes ++ to_le_bytes w32 (words' (place + n))) (drawn_ahead words words' ahead place n rest)
    ∙ ap (λ word. drawn words (ahead + place) n ++ to_le_bytes w32 word) (rest (place + n) ∙ ap words (omega arith))

edek_ahead : (version : VersionName) (material : List ℕ) (words words' : ℕ → ℕ) (ahead : ℕ) → Drew words words' ahead
    → drawn_edek version material words' 0 ≡ drawn_edek version material words ahead
unfolding drawn_iv
edek_ahead version material words words' ahead rest =
    let iv : drawn words' 0 4 ≡ drawn words ahead 4 = drawn_ahead words words' ahead 0 4 rest ∙ ap (λ place. drawn words place 4) (omega arith) in
    let dek : drawn words' 4 (length material / 4) ≡ drawn words (ahead + 4) (length material / 4) = drawn_ahead words words' ahead 4 (length material / 4) rest in
    λ i. record { version = version; iv = iv i; sealed = seal material (iv i) (dek i) }

draws_on : (words words' words'' : ℕ → ℕ) (before count : ℕ) → Drew words words' before → Drew words' words'' count → Drew words words'' (before + count)
draws_on words words' words'' before count first second = λ k. second k ∙ first (count + k) ∙ ap words (omega arith)

next_place : (len number : ℕ) → place_of_draw len number + words_of_draw len ≡ place_of_draw len (number + 1)
next_place len number = grind arith

-- one more data encryption key after those drawn
pub one_more_key : (current : CurrentVersion) (words words' words'' : ℕ → ℕ) (count : ℕ) (others keys keys' : List Edek) (key : Edek)
    → DrewKeys current words words' count others keys → key ≡ drawn_edek current.version current.material words' 0
    → Drew words' words'' (words_of_draw (length current.material)) → keys' ≡ keys ++ key ∷ [] → DrewKeys current words words'' (count + 1) others keys'
one_more_key current words words' words'' count others keys keys' key before is rest more =
    let place : ℕ = place_of_draw (length current.material) count in
    record {
      drawn = more ∙ ap (λ ks. ks ++ key ∷ []) before.drawn
          ∙ append_assoc others (drawn_edeks current.version current.material words count) (key ∷ [])
          ∙ ap (λ k. others ++ (drawn_edeks current.version current.material words count ++ k ∷ [])) (is ∙ edek_ahead current.version current.material words words' place before.rest)
          ∙ ap (λ n. others ++ drawn_edeks current.version current.material words n) (sym (add-one count));
      rest = λ k. draws_on words words' words'' place (words_of_draw (length current.material)) before.rest rest k
          ∙ ap (λ n. words (n + k)) (next_place (length current.material) count);
    }

-- memory ran out for the last key
pub one_more_lost : (current : CurrentVersion) (words words' words'' : ℕ → ℕ) (count all : ℕ) (others keys : List Edek)
    → DrewKeys current words words' count others keys → Drew words' words'' (words_of_draw (length current.material)) → count < all → DrewSome current words words'' all
one_more_lost current words words' words'' count all others keys before rest more =
    let len : ℕ = length current.material in
    record {
      drawn = place_of_draw len count + words_of_draw len;
      few = fits len count all more;
      rest = draws_on words words' words'' (place_of_draw len count) (words_of_draw len) before.rest rest;
    }
  where
    fits : (len number all : ℕ) → number < all → place_of_draw len number + words_of_draw len ≤ place_of_draw len all
    fits len number all more = let over : number + 1 ≤ all = omega arith in
        omega (arith, next_place len number, mul-le-mul_right (4 + len / 4) over)

-- the lengths of keys, by the number of their words
length_cases : (n : ℕ) → is_key_length n ≡ true → (n ≡ 16) ⊎ (n ≡ 24) ⊎ (n ≡ 32)
length_cases n h = grind (arith, nat_tests)

words_of_cases : (n : ℕ) → (n ≡ 16) ⊎ (n ≡ 24) ⊎ (n ≡ 32) → (n / 4 ≡ 4) ⊎ (n / 4 ≡ 6) ⊎ (n / 4 ≡ 8)
words_of_cases n (inl e) = inl (ap (λ (k : ℕ). k / 4) e)
words_of_cases n (inr (inl e)) = inr (inl (ap (λ (k : ℕ). k / 4) e))
words_of_cases n (inr (inr e)) = inr (inr (ap (λ (k : ℕ). k / 4) e))

whole_cases : (n : ℕ) → (n ≡ 16) ⊎ (n ≡ 24) ⊎ (n ≡ 32) → 4 * (n / 4) ≡ n
whole_cases n (inl e) = ap (λ (k : ℕ). 4 * (k / 4)) e ∙ sym e
whole_cases n (inr (inl e)) = ap (λ (k : ℕ). 4 * (k / 4)) e ∙ sym e
whole_cases n (inr (inr e)) = ap (λ (k : ℕ). 4 * (k / 4)) e ∙ sym e

pub words_of_key : (key : List ℕ) (bytes : List ℕ) (n : ℕ) → is_key_length (length key) ≡ true → bytes ≡ key → n ≡ length bytes → (n / 4 ≡ 4) ⊎ (n / 4 ≡ 6) ⊎ (n / 4 ≡ 8)
words_of_key key bytes n h e f = subst (λ (k : ℕ). (k / 4 ≡ 4) ⊎ (k / 4 ≡ 6) ⊎ (k / 4 ≡ 8)) (sym (f ∙ ap length e)) (words_of_cases (length key) (length_cases (length key) h))

pub length_of_key : (key bytes dek : List ℕ) (n : ℕ) → is_key_length (length key) ≡ true → bytes ≡ key → n ≡ length bytes → length dek ≡ 4 * (n / 4) → length dek ≡ length key
length_of_key key bytes dek n h e f g = g ∙ ap (λ (k : ℕ). 4 * (k / 4)) (f ∙ ap length e) ∙ whole_cases (length key) (length_cases (length key) h)

-- a key of as many words as another has, drawn after an initialization vector
pub dek_after_iv : (key bytes dek : List ℕ) (words words' : ℕ → ℕ) (n : ℕ) → bytes ≡ key → n ≡ length bytes → Drew words words' 4 → dek ≡ drawn words' 0 (n / 4) → dek ≡ drawn_dek words 0 (length key)
dek_after_iv key bytes dek words words' n e f rest is = is ∙ drawn_ahead words words' 4 0 (n / 4) rest ∙ ap (λ (k : ℕ). drawn words 4 (k / 4)) (f ∙ ap length e)

pub words_of_both : (key bytes : List ℕ) (words words' words'' : ℕ → ℕ) (n : ℕ) → bytes ≡ key → n ≡ length bytes → Drew words words' 4 → Drew words' words'' (n / 4) → Drew words words'' (words_of_draw (length key))
words_of_both key bytes words words' words'' n e f first second =
    subst (λ (k : ℕ). Drew words words'' (4 + k / 4)) (f ∙ ap length e) (draws_on words words' words'' 4 (n / 4) first second)

pub edek_is : (version : VersionName) (key iv dek sealed : List ℕ) (words : ℕ → ℕ) → iv ≡ drawn_iv words 0 → dek ≡ drawn_dek words 0 (length key) → sealed ≡ seal key iv dek
    → record { version = version; iv = iv; sealed = sealed } ≡ drawn_edek version key words 0
edek_is version key iv dek sealed words ei ed es =
    let e : sealed ≡ seal key (drawn_iv words 0) (drawn_dek words 0 (length key)) = es ∙ ap (λ (v : List ℕ). seal key v dek) ei ∙ ap (seal key (drawn_iv words 0)) ed in
    λ i. record { version = version; iv = ei i; sealed = e i }

pub sealed_is : (ticket : Ticket) (iv dek : List ℕ) (words : ℕ → ℕ) → iv ≡ drawn_iv words 0 → dek ≡ drawn_dek words 0 (length ticket.material)
    → record { opening = ticket.opening; birth = ticket.birth; version = ticket.version; iv = iv; dek = dek; sealed = seal ticket.material iv dek } ≡ sealed_with ticket words
sealed_is ticket iv dek words ei ed =
    λ i. record { opening = ticket.opening; birth = ticket.birth; version = ticket.version; iv = ei i; dek = ed i; sealed = seal ticket.material (ei i) (ed i) }
