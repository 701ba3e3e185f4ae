-- The words of `read` in a program that has the command.
use Rattle.std.proofs.Common.{refl, codes, List, [], ◌∷◌, ◌≡◌, ◌<◌, ◌≤◌, ◌^◌, ◌∙◌, ap, arith, ℕ}
use Rattle.std.specs.Prelude.{Option, Some, None, option_map}
use Rattle.std.specs.Fmt.{decimal}
use Rattle.std.specs.Str.Parse.{IsNumeral}
use Rattle.std.proofs.lemmas.Fmt.{decimal_digit}
use Rattle.std.proofs.lemmas.Str.Parse.{digit_from_value}
use Rattle.clap.specs.Words.{App, Row, Text, fault_of, first_of, subcommand_of}
use Rattle.clap_lines.specs.Orders.{HasOrder, IsMistake, IsPlain, IsRightUser, line_fault, number_at, order_at, user_at, user_in}
use Rattle.clap_lines.proofs.OrderLemmas.{IsPlainApp, named_at, refused_by_value}
use Rattle.clap_lines.proofs.ValueLemmas.{IsWord, no_numeral, number_given, number_read, number_refused, number_word, plain_word, user_given, user_read, user_refused}
use Rattle.read_words.specs.Values.{IsRightRead, SpellsRead, count_in, from_in, path_in, read_values, read_values_in}
use Rattle.read_words.specs.declared.values.ReadValues.{ReadValues}

-- ---- bounds

right_by : (user path : Option Text) (from count : Option ℕ) (v : ReadValues) → ((u : Text) → user ≡ Some u → IsRightUser u) → ((n : ℕ) → from ≡ Some n → n < 2 ^ 63)
    → ((n : ℕ) → count ≡ Some n → n < 2 ^ 63) → read_values user path from count ≡ Some v → IsRightRead v.user v.from v.count
right_by (Some user) (Some path) (Some from) (Some count) v right low few e =
    let is : record { user = user; path = path; from = from; count = count } ≡ v = cc e in rw (← is) (right user refl, low from refl, few count refl)
right_by (Some user) (Some path) (Some from) None v right low few e = cc
right_by (Some user) (Some path) None count v right low few e = cc
right_by (Some user) None from count v right low few e = cc
right_by None path from count v right low few e = cc

right_values : (rows : List Row) (v : ReadValues) → read_values_in rows ≡ Some v → IsRightRead v.user v.from v.count
right_values rows v e =
    right_by (user_in rows) (path_in rows) (from_in rows) (count_in rows) v (user_given (first_of (codes "user") rows)) (number_given (first_of (codes "from") rows))
    (number_given (first_of (codes "count") rows)) e

-- an order that is made of the values has what is right of them
pub right_order : {O : Type 0} (of : ReadValues → O) (IsRight : O → Type 0) → ((v : ReadValues) → IsRightRead v.user v.from v.count → IsRight (of v)) → (rows : List Row) (o : O)
    → option_map of (read_values_in rows) ≡ Some o → IsRight o
right_order of IsRight right rows o e = by (read_values_in rows) refl e
  where
    by : (given : Option ReadValues) → read_values_in rows ≡ given → option_map of given ≡ Some o → IsRight o
    by (Some v) given e = let is : of v ≡ o = cc e in rw (← is) (right v (right_values rows v given))
    by None given e = cc

-- ---- values that are missing

no_user : (user path : Option Text) (from count : Option ℕ) → user ≡ None → read_values user path from count ≡ None
no_user user path from count e = ap (λ (x : Option Text). read_values x path from count) e

no_from : (user path : Option Text) (from count : Option ℕ) → from ≡ None → read_values user path from count ≡ None
no_from (Some user) (Some path) (Some from) count e = cc
no_from (Some user) (Some path) None count e = refl
no_from (Some user) None from count e = refl
no_from None path from count e = refl

no_count : (user path : Option Text) (from count : Option ℕ) → count ≡ None → read_values user path from count ≡ None
no_count (Some user) (Some path) (Some from) (Some count) e = cc
no_count (Some user) (Some path) (Some from) None e = refl
no_count (Some user) (Some path) None count e = refl
no_count (Some user) None from count e = refl
no_count None path from count e = refl

values_are : (user : Option Text) (from count : Option ℕ) (u p : Text) (f c : ℕ) → user ≡ Some u → from ≡ Some f → count ≡ Some c
    → read_values user (Some p) from count ≡ Some (record { user = u; path = p; from = f; count = c })
values_are user from count u p f c e d b = λ i. read_values (e i) (Some p) (d i) (b i)

-- ---- words that are none

is_alice : IsWord (codes "alice")
is_alice = plain_word (codes "alice") (λ e. cc)

is_path : IsWord (codes "/b")
is_path = plain_word (codes "/b") (λ e. cc)

is_zero : IsWord (codes "0")
is_zero = plain_word (codes "0") (λ e. cc)

is_one : IsWord (codes "1")
is_one = plain_word (codes "1") (λ e. cc)

zeros : number_at (codes "00") ≡ None
zeros = rw (decimal_digit 0 (omega arith)) refl

no_sign : ¬ IsNumeral 10 (codes "+1")
no_sign h = let range = digit_from_value 43 h.1.0 in omega arith

-- ---- a program with the command

module _ {O : Type 0} (a : App) (named : Text → List Row → Option O) (of : ReadValues → O) where
  -- clap takes any four words that are no flags, and their values are those of the order
  pub record HasRead : Type 0 where
    pub plain : IsPlainApp a
    pub fault : (u p f c : Text) → IsWord u → IsWord p → IsWord f → IsWord c → fault_of a (codes "read" ∷ u ∷ p ∷ f ∷ c ∷ []) ≡ []
    pub order : (u p f c : Text) → IsWord u → IsWord p → IsWord f → IsWord c
        → order_at named (subcommand_of a (codes "read" ∷ u ∷ p ∷ f ∷ c ∷ [])) ≡ option_map of (read_values (user_at u) (Some p) (number_at f) (number_at c))

  pub read_is_named : HasRead → (user path : Text) (from count : ℕ) (words : List Text) → SpellsRead user path from count words
      → HasOrder a named (of (record { user = user; path = path; from = from; count = count })) words
  read_is_named h user path from count words s =
      let u = plain_word user s.1 in
      let p = plain_word path s.2 in
      let f = number_word from (omega (arith, s.0.1)) in
      let c = number_word count (omega (arith, s.0.2)) in
      named_at a named words _ (of (record { user = user; path = path; from = from; count = count })) s.3 (h.fault user path (decimal from) (decimal count) u p f c)
      (h.order user path (decimal from) (decimal count) u p f c
      ∙ ap (option_map of)
      (values_are (user_at user) (number_at (decimal from)) (number_at (decimal count)) user path from count (user_read user s.0.0) (number_read from (decimal from) s.0.1 refl)
      (number_read count (decimal count) s.0.2 refl)))

  refused : HasRead → (u p f c : Text) → IsWord u → IsWord p → IsWord f → IsWord c → read_values (user_at u) (Some p) (number_at f) (number_at c) ≡ None
      → IsMistake (line_fault a named (codes "read" ∷ u ∷ p ∷ f ∷ c ∷ []))
  refused h u p f c w x y z none = refused_by_value a named _ h.plain (h.fault u p f c w x y z) (h.order u p f c w x y z ∙ ap (option_map of) none)

  pub wrong_user_is_refused : HasRead → (user path : Text) → IsPlain user → IsPlain path → ¬ IsRightUser user
      → IsMistake (line_fault a named (codes "read" ∷ user ∷ path ∷ codes "0" ∷ codes "1" ∷ []))
  wrong_user_is_refused h user path u p wrong =
      refused h user path (codes "0") (codes "1") (plain_word user u) (plain_word path p) is_zero is_one
      (no_user (user_at user) (Some path) (number_at (codes "0")) (number_at (codes "1")) (user_refused user wrong))

  pub large_count_is_refused : HasRead → (number : ℕ) → number < 2 ^ 64 → 2 ^ 63 ≤ number
      → IsMistake (line_fault a named (codes "read" ∷ codes "alice" ∷ codes "/b" ∷ codes "0" ∷ decimal number ∷ []))
  large_count_is_refused h number small large =
      refused h (codes "alice") (codes "/b") (codes "0") (decimal number) is_alice is_path is_zero (number_word number small)
      (no_count (user_at (codes "alice")) (Some (codes "/b")) (number_at (codes "0")) (number_at (decimal number)) (number_refused number (decimal number) small large refl))

  pub zeros_are_refused : HasRead → IsMistake (line_fault a named (codes "read" ∷ codes "alice" ∷ codes "/b" ∷ codes "00" ∷ codes "1" ∷ []))
  zeros_are_refused h =
      refused h (codes "alice") (codes "/b") (codes "00") (codes "1") is_alice is_path (plain_word (codes "00") (λ e. cc)) is_one
      (no_from (user_at (codes "alice")) (Some (codes "/b")) (number_at (codes "00")) (number_at (codes "1")) zeros)

  pub signs_are_refused : HasRead → IsMistake (line_fault a named (codes "read" ∷ codes "alice" ∷ codes "/b" ∷ codes "0" ∷ codes "+1" ∷ []))
  signs_are_refused h =
      refused h (codes "alice") (codes "/b") (codes "0") (codes "+1") is_alice is_path is_zero (plain_word (codes "+1") (λ e. cc))
      (no_count (user_at (codes "alice")) (Some (codes "/b")) (number_at (codes "0")) (number_at (codes "+1")) (no_numeral (codes "+1") no_sign (omega arith)))
