-- Numbers in decimal: reading them, and how clap sees them as words.
use Rattle.std.proofs.Common.{refl, List, [], ◌∷◌, ◌≡◌, ◌<◌, ◌≤◌, ◌^◌, ℕ, Some, None, true, false, arith, length, ◌==◌, ◌&&◌, ap, ◌∙◌, ◌⊎◌, inl, inr}
use Rattle.std.proofs.lemmas.Bool.Decides.{nat_tests}
use Rattle.std.proofs.lemmas.Bool.{ne_eqb, and_from, and_right, and_left}
use Rattle.std.proofs.lemmas.Fmt.{decimal_is_IsNumeral}
use Rattle.std.proofs.lemmas.Slice.Eq.{bytes_eq-Decides}
use Rattle.std.proofs.lemmas.Str.Parse.{digit_from_value}
use Rattle.std.specs.Prelude.{pos, nat_lt, nat_le, int_le}
use Rattle.std.specs.Char.{digit_value}
use Rattle.std.specs.Fmt.{decimal}
use Rattle.std.specs.List.{list_all}
use Rattle.std.specs.Str.{bytes_eq}
use Rattle.std.specs.Str.Parse.{AllDigits, IsNumeral, digits_value}
use Rattle.clap.specs.Lexer.{long_of, short_of}
use Rattle.clap.specs.ValueTests.{fits_i64, is_numeral, is_signed_in}
use Rattle.command_line.specs.Orders.{in_range, number_at}

-- ---- reading a number

-- the text is the decimal form of a number
pub number_at-decimal : (most n : ℕ) (text : List ℕ) → n < 2 ^ 64 → text ≡ decimal n → number_at most text ≡ in_range most n
number_at-decimal most n text small is =
    let value : digits_value 10 text ≡ n = ap (digits_value 10) is ∙ (decimal_is_IsNumeral n small).1 in
    let same : bytes_eq text (decimal n) ≡ true = (bytes_eq-Decides text (decimal n)).1 is in
    rw (value, same) refl

-- ---- a number as a word

-- the word is no flag, and clap reads it as a number from 1 to `most`
pub record IsNumberWord (most : ℕ) (t : List ℕ) : Type 0 where
  pub no_long : long_of t ≡ None
  pub no_short : short_of t ≡ None
  pub no_dashes : bytes_eq t (45 ∷ 45 ∷ []) ≡ false
  pub accepted : is_signed_in (pos 1) (pos most) t ≡ true

all_digits : (t : List ℕ) → AllDigits 10 t → list_all (λ d. nat_lt (digit_value d) 10) t ≡ true
all_digits [] h = refl
all_digits (d ∷ ds) h = and_from (nat_lt (digit_value d) 10) _ (grind (arith, nat_tests)) (all_digits ds h.1)

fits : (most v : ℕ) → 1 ≤ v → v ≤ most → most < 2 ^ 63 → (fits_i64 (pos v) && (int_le (pos 1) (pos v) && int_le (pos v) (pos most))) ≡ true
fits most v some few small =
    and_from (nat_lt v (2 ^ 63)) _ (grind (arith, nat_tests))
    (and_from (nat_le 1 v) (nat_le v most) (grind (arith, nat_tests)) (grind (arith, nat_tests)))

-- the word is no flag, and clap reads it as no number from 1 to `most`
pub record IsRefusedWord (most : ℕ) (t : List ℕ) : Type 0 where
  pub no_long : long_of t ≡ None
  pub no_short : short_of t ≡ None
  pub no_dashes : bytes_eq t (45 ∷ 45 ∷ []) ≡ false
  pub refused : is_signed_in (pos 1) (pos most) t ≡ false

does_not_fit : (most v : ℕ) → (v ≡ 0) ⊎ (most < v) → (fits_i64 (pos v) && (int_le (pos 1) (pos v) && int_le (pos v) (pos most))) ≡ false
does_not_fit most v (inl none) = and_right (nat_lt v (2 ^ 63)) _ (and_left (nat_le 1 v) (nat_le v most) (grind (arith, nat_tests)))
does_not_fit most v (inr many) = and_right (nat_lt v (2 ^ 63)) _ (and_right (nat_le 1 v) (nat_le v most) (grind (arith, nat_tests)))

other_numeral : (most : ℕ) (t : List ℕ) → IsNumeral 10 t → (digits_value 10 t ≡ 0) ⊎ (most < digits_value 10 t) → IsRefusedWord most t
other_numeral most [] h other = absurd (omega (arith, h.0))
other_numeral most (d ∷ ds) h other =
    let range = digit_from_value d h.1.0 in
    let minus : (d == 45) ≡ false = ne_eqb _ _ (λ e. omega arith) in
    let plus : (d == 43) ≡ false = ne_eqb _ _ (λ e. omega arith) in
    record {
      no_long = rw minus refl;
      no_short = rw minus refl;
      no_dashes = rw minus refl;
      refused = rw (minus, plus) (and_right (is_numeral (d ∷ ds)) _ (does_not_fit most (digits_value 10 (d ∷ ds)) other));
    }

pub other_number : (most n : ℕ) → n < 2 ^ 64 → (n ≡ 0) ⊎ (most < n) → IsRefusedWord most (decimal n)
other_number most n small other =
    let is = decimal_is_IsNumeral n small in
    other_numeral most (decimal n) is.0 (rw is.1 other)

numeral_word : (most : ℕ) (t : List ℕ) → IsNumeral 10 t → 1 ≤ digits_value 10 t → digits_value 10 t ≤ most → most < 2 ^ 63 → IsNumberWord most t
numeral_word most [] h some few small = absurd (omega (arith, h.0))
numeral_word most (d ∷ ds) h some few small =
    let range = digit_from_value d h.1.0 in
    let minus : (d == 45) ≡ false = ne_eqb _ _ (λ e. omega arith) in
    let plus : (d == 43) ≡ false = ne_eqb _ _ (λ e. omega arith) in
    let numeral : is_numeral (d ∷ ds) ≡ true = and_from (nat_lt 0 (length (d ∷ ds))) _ (grind (arith, nat_tests)) (all_digits (d ∷ ds) h.1) in
    record {
      no_long = rw minus refl;
      no_short = rw minus refl;
      no_dashes = rw minus refl;
      accepted = rw (minus, plus) (and_from (is_numeral (d ∷ ds)) _ numeral (fits most (digits_value 10 (d ∷ ds)) some few small));
    }

pub number_word : (most n : ℕ) → 1 ≤ n → n ≤ most → most < 2 ^ 63 → IsNumberWord most (decimal n)
number_word most n some few small =
    let is = decimal_is_IsNumeral n (omega arith) in
    numeral_word most (decimal n) is.0 (rw is.1 some) (rw is.1 few) small

pub number_at-word : (most n : ℕ) → 1 ≤ n → n ≤ most → most < 2 ^ 63 → number_at most (decimal n) ≡ Some n
number_at-word most n some few small =
    let low : nat_le 1 n ≡ true = grind (arith, nat_tests) in
    let high : nat_le n most ≡ true = grind (arith, nat_tests) in
    number_at-decimal most n (decimal n) (omega arith) refl ∙ rw (low, high) refl
