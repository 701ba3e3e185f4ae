-- The number that digits write, one digit at a time.
use Rattle.std.proofs.Common.{◌≡◌, ℕ, ◌+◌, ◌-◌, ◌*◌, ◌^◌, ◌<◌, ◌≤◌, true, List, [], ◌∷◌, length, take, get_or, sym, ap, ◌∙◌, subst, arith, zero, suc}
use Rattle.std.specs.Char.{is_ascii_digit, digit_value}
use Rattle.std.specs.List.{list_all}
use Rattle.std.specs.Str.Parse.{AllDigits}
use Rattle.std.proofs.Math.Nat.{pow-le-pow_right}
use Rattle.std.proofs.lemmas.Bool.{and_parts, leb-true, cond-true, cond-false, lt-ltb, le-ltb}
use Rattle.std.proofs.lemmas.Int.Digits.{digits_value_more, digits_value-lt}
use Rattle.std.proofs.lemmas.List.{length-take-le}
use Rattle.std.proofs.lemmas.List.Sums.{AllPass-from_list_all}
use Rattle.http_wire.specs.Fields.{number_of}

pub digit_bounds : (b : ℕ) → is_ascii_digit b ≡ true → (48 ≤ b) × (b ≤ 57)
digit_bounds b is = let parts = and_parts _ _ is in (leb-true 48 b parts.0, leb-true b 57 parts.1)

pub digit_value_is : (b : ℕ) → is_ascii_digit b ≡ true → digit_value b ≡ b - 48
digit_value_is b is =
    let low : 48 ≤ b = (digit_bounds b is).0 in
    let high : b < 58 = omega (arith, (digit_bounds b is).1) in
    cond-false _ _ _ (le-ltb b 48 low) ∙ cond-true _ _ _ (lt-ltb b 58 high)

-- a prefix of digits consists of digits
pub digits_front : (digits : List ℕ) (i : ℕ) → list_all is_ascii_digit digits ≡ true → AllDigits 10 (take i digits)
digits_front [] zero all = tt
digits_front [] (suc i) all = tt
digits_front (b ∷ digits) zero all = tt
digits_front (b ∷ digits) (suc i) all =
    let parts = and_parts (is_ascii_digit b) (list_all is_ascii_digit digits) all in
    (omega (arith, digit_value_is b parts.0, digit_bounds b parts.0), digits_front digits i parts.1)

-- One more digit.
pub record DigitMore (digits : List ℕ) (i number digit : ℕ) : Type 0 where
  pub low : 48 ≤ digit
  pub high : digit ≤ 57
  pub fits : number * 10 + 9 < 2 ^ 64
  pub more : number * 10 + (digit - 48) ≡ number_of (take (i + 1) digits)

pub digit_more : (digits : List ℕ) (i number digit : ℕ) → list_all is_ascii_digit digits ≡ true → length digits ≤ 19 → i < length digits → number ≡ number_of (take i digits) → digit ≡ get_or digits i 0 → DigitMore digits i number digit
digit_more digits i number digit all few within so_far here =
    let is : is_ascii_digit digit ≡ true = subst (λ b. is_ascii_digit b ≡ true) (sym here) (AllPass-from_list_all is_ascii_digit digits all i 0 within) in
    let bounds = digit_bounds digit is in
    let below : number < 10 ^ length (take i digits) = subst (λ n. n < 10 ^ length (take i digits)) (sym so_far) (digits_value-lt 10 (take i digits) (digits_front digits i all)) in
    let short : length (take i digits) ≡ i = length-take-le i digits (omega arith) in
    let most : 10 ^ length (take i digits) ≤ 10 ^ 18 = let few_digits : length (take i digits) ≤ 18 = omega (arith, short) in pow-le-pow_right {n = 10} (omega arith) few_digits in
    record {
      low = bounds.0;
      high = bounds.1;
      fits = omega (arith, below, most);
      more = ap (λ n. n * 10 + (digit - 48)) so_far ∙ ap (λ n. number_of (take i digits) * 10 + n) (sym (digit_value_is digit is) ∙ ap digit_value here) ∙ sym (digits_value_more 10 digits i within);
    }
