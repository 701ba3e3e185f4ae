-- The bounds of users and numbers.
use Rattle.std.proofs.Common.{refl, List, [], ◌∷◌, ◌≡◌, ◌<◌, ◌≤◌, ◌^◌, ℕ, Some, None, Bool, true, false, arith, length, ◌&&◌, ap, ◌∙◌, sym, subst}
use Rattle.std.proofs.lemmas.Bool.Decides.{nat_tests}
use Rattle.std.proofs.lemmas.Bool.{ne_eqb}
use Rattle.std.proofs.lemmas.Fmt.{decimal_is_IsNumeral}
use Rattle.std.proofs.lemmas.Slice.Eq.{bytes_eq-Decides}
use Rattle.std.proofs.lemmas.Str.Parse.{digit_from_value}
use Rattle.std.specs.Prelude.{Option, nat_lt, nat_le, if◌then◌else◌, option_and_then}
use Rattle.std.specs.Fmt.{decimal}
use Rattle.std.specs.Str.{bytes_eq}
use Rattle.std.specs.Str.Parse.{IsNumeral, digits_value}
use Rattle.clap.specs.Lexer.{long_of, short_of}
use Rattle.clap.specs.Words.{Text}
use Rattle.clap_lines.specs.Orders.{IsPlain, IsRightUser, number_at, user_at}

-- ---- numbers

-- the text is the decimal form of a number
pub number_at-decimal : (n : ℕ) (text : List ℕ) → n < 2 ^ 64 → text ≡ decimal n → number_at text ≡ (if nat_lt n (2 ^ 63) then Some n else None)
number_at-decimal n text small is =
    let value : digits_value 10 text ≡ n = ap (digits_value 10) is ∙ (decimal_is_IsNumeral n small).1 in
    let same : bytes_eq text (decimal n) ≡ true = (bytes_eq-Decides text (decimal n)).1 is in
    rw (value, same) refl

pub number_read : (n : ℕ) (text : List ℕ) → n < 2 ^ 63 → text ≡ decimal n → number_at text ≡ Some n
number_read n text small is =
    let low : nat_lt n (2 ^ 63) ≡ true = grind (arith, nat_tests) in
    number_at-decimal n text (omega arith) is ∙ rw low refl

pub number_refused : (n : ℕ) (text : List ℕ) → n < 2 ^ 64 → 2 ^ 63 ≤ n → text ≡ decimal n → number_at text ≡ None
number_refused n text small large is =
    let high : nat_lt n (2 ^ 63) ≡ false = grind (arith, nat_tests) in
    number_at-decimal n text small is ∙ rw high refl

-- a text that is no numeral is no number
pub no_numeral : (text : List ℕ) → ¬ IsNumeral 10 text → digits_value 10 text < 2 ^ 64 → number_at text ≡ None
no_numeral text other small = by (bytes_eq text (decimal (digits_value 10 text))) refl
  where
    by : (same : Bool) → bytes_eq text (decimal (digits_value 10 text)) ≡ same → (if same && nat_lt (digits_value 10 text) (2 ^ 63) then Some (digits_value 10 text) else None) ≡ None
    by true same =
        let is : text ≡ decimal (digits_value 10 text) = (bytes_eq-Decides text (decimal (digits_value 10 text))).0 same in
        absurd (other (subst (IsNumeral 10) (sym is) (decimal_is_IsNumeral (digits_value 10 text) small).0))
    by false same = refl

-- ---- users

pub user_read : (user : Text) → IsRightUser user → user_at user ≡ Some user
user_read user right =
    let low : nat_le 1 (length user) ≡ true = grind (arith, nat_tests) in
    let high : nat_le (length user) 255 ≡ true = grind (arith, nat_tests) in
    rw (low, high) refl

pub user_refused : (user : Text) → ¬ IsRightUser user → user_at user ≡ None
user_refused user wrong = by (nat_le 1 (length user)) (nat_le (length user) 255) refl refl
  where
    by : (some few : Bool) → nat_le 1 (length user) ≡ some → nat_le (length user) 255 ≡ few → (if some && few then Some user else None) ≡ None
    by true true some few = absurd (wrong (grind (arith, nat_tests), grind (arith, nat_tests)))
    by true false some few = refl
    by false few some f = refl

-- ---- what values have

user_bounds : (text user : Text) → user_at text ≡ Some user → IsRightUser user
user_bounds text user e = by (nat_le 1 (length text)) (nat_le (length text) 255) refl refl e
  where
    by : (some few : Bool) → nat_le 1 (length text) ≡ some → nat_le (length text) 255 ≡ few → (if some && few then Some text else None) ≡ Some user → IsRightUser user
    by true true some few e = let is : text ≡ user = cc e in rw (← is) (grind (arith, nat_tests), grind (arith, nat_tests))
    by true false some few e = cc
    by false few some f e = cc

number_bound : (text : Text) (n : ℕ) → number_at text ≡ Some n → n < 2 ^ 63
number_bound text n e = by (bytes_eq text (decimal (digits_value 10 text))) (nat_lt (digits_value 10 text) (2 ^ 63)) refl e
  where
    by : (same low : Bool) → nat_lt (digits_value 10 text) (2 ^ 63) ≡ low → (if same && low then Some (digits_value 10 text) else None) ≡ Some n → n < 2 ^ 63
    by true true low e = let is : digits_value 10 text ≡ n = cc e in rw (← is) (grind (arith, nat_tests))
    by true false low e = cc
    by false low l e = cc

pub user_given : (text : Option Text) (user : Text) → option_and_then user_at text ≡ Some user → IsRightUser user
user_given (Some text) user e = user_bounds text user e
user_given None user e = cc

pub number_given : (text : Option Text) (n : ℕ) → option_and_then number_at text ≡ Some n → n < 2 ^ 63
number_given (Some text) n e = number_bound text n e
number_given None n e = cc

-- ---- words that are no flags

pub record IsWord (t : List ℕ) : Type 0 where
  pub no_long : long_of t ≡ None
  pub no_short : short_of t ≡ None
  pub no_dashes : bytes_eq t (45 ∷ 45 ∷ []) ≡ false

pub plain_word : (t : Text) → IsPlain t → IsWord t
plain_word [] h = record { no_long = refl; no_short = refl; no_dashes = refl }
plain_word (b ∷ bytes) h =
    let minus = ne_eqb b 45 h in
    record { no_long = rw minus refl; no_short = rw minus refl; no_dashes = rw minus refl }

numeral_word : (t : List ℕ) → IsNumeral 10 t → IsPlain t
numeral_word [] h = tt
numeral_word (d ∷ ds) h = let range = digit_from_value d h.1.0 in λ e. omega arith

pub number_word : (n : ℕ) → n < 2 ^ 64 → IsWord (decimal n)
number_word n small = plain_word (decimal n) (numeral_word (decimal n) (decimal_is_IsNumeral n small).0)
