-- The words of `load`.
use Rattle.std.proofs.Common.{refl, codes, List, [], ◌∷◌, ◌≡◌, ◌<◌, ◌≤◌, ◌^◌, ◌⊎◌, inl, inr, ap, ◌∙◌, arith, ℕ, Bool, true, false, ◌&&◌}
use Rattle.std.proofs.lemmas.Bool.Decides.{nat_tests}
use Rattle.std.proofs.lemmas.Result.{IfOk-weaker}
use Rattle.std.specs.Prelude.{Option, Some, None, Result, IfOk, if◌then◌else◌, nat_le, option_and_then}
use Rattle.std.specs.Fmt.{decimal}
use Rattle.std.specs.Str.{bytes_eq}
use Rattle.std.specs.Str.Parse.{digits_value}
use Rattle.clap.specs.Words.{Row, Text, fault_of, first_of, subcommand_of}
use Rattle.clap.proofs.OnLiterals.{clap_on_literals}
use Rattle.clap.specs.declared.error.ErrorKind.TheVariants.{MissingRequiredArgument, UnknownArgument, ValueValidation}
use Rattle.clap_lines.specs.Orders.{IsMistake, order_at}
use Rattle.clap_lines.specs.declared.told.OrderFault.{OrderFault}
use Rattle.clap_lines.proofs.OrderLemmas.{refused_by_clap}
use Rattle.command_line.specs.Line as line
use Rattle.command_line.specs.Orders.{HasRightCount, IsOrderOf, IsRightCount, Names, conns_at, count_at, in_range, line_fault, load_order, number_at, order_named, places_at, port_at, serve_order}
use Rattle.command_line.specs.declared.order.Order.{Order}
use Rattle.command_line.specs.declared.order.Order.TheVariants.{Replay, Pipe, Serve, Load, Check, Help, Version}
use Rattle.command_line.proofs.NumberLemmas.{IsNumberWord, IsRefusedWord, number_at-word, number_word, other_number}
use Rattle.command_line.proofs.SpellingLemmas.{Reading, reading_at}

-- ---- words that name a load

fault_load : (t : Text) → IsNumberWord 20000 t → fault_of line.hkms (codes "load" ∷ t ∷ []) ≡ []
unfolding clap_on_literals
fault_load t w = rw (w.no_dashes, w.no_long, w.no_short, w.accepted) refl

order_load : (t : Text) → IsNumberWord 20000 t → order_at order_named (subcommand_of line.hkms (codes "load" ∷ t ∷ [])) ≡ load_order (number_at 20000 t)
unfolding clap_on_literals
order_load t w = rw (w.no_dashes, w.no_long, w.no_short) refl

count_word : (count : ℕ) → IsRightCount count → IsNumberWord 20000 (decimal count)
count_word count right = number_word 20000 count right.0 right.1 (omega arith)

pub load_reads : (count : ℕ) (words : List Text) → IsRightCount count → words ≡ codes "load" ∷ decimal count ∷ [] → Reading words (Load count)
load_reads count words right e =
    reading_at words _ (Load count) e (fault_load (decimal count) (count_word count right))
    (order_load (decimal count) (count_word count right) ∙ ap load_order (number_at-word 20000 count right.0 right.1 (omega arith)))

-- ---- its number

ranged : (most n k : ℕ) → in_range most n ≡ Some k → (1 ≤ k) × (k ≤ most)
ranged most n k e = by (nat_le 1 n) (nat_le n most) refl refl e
  where
    by : (some few : Bool) → nat_le 1 n ≡ some → nat_le n most ≡ few → (if some && few then Some n else None) ≡ Some k → (1 ≤ k) × (k ≤ most)
    by true true some few e = let is : n ≡ k = cc e in rw (← is) (grind (arith, nat_tests), grind (arith, nat_tests))
    by true false some few e = cc
    by false few some f e = cc

numbered : (most : ℕ) (text : Text) (k : ℕ) → number_at most text ≡ Some k → (1 ≤ k) × (k ≤ most)
numbered most text k e = by (bytes_eq text (decimal (digits_value 10 text))) e
  where
    by : (same : Bool) → (if same then in_range most (digits_value 10 text) else None) ≡ Some k → (1 ≤ k) × (k ≤ most)
    by true e = ranged most (digits_value 10 text) k e
    by false e = cc

counted_at : (text : Option Text) (k : ℕ) → option_and_then (number_at 20000) text ≡ Some k → IsRightCount k
counted_at (Some text) k e = numbered 20000 text k e
counted_at None k e = cc

of_load : (given : Option ℕ) (count : ℕ) → load_order given ≡ Some (Load count) → given ≡ Some count
of_load (Some k) count e = let is : k ≡ count = cc e in ap Some is
of_load None count e = cc

no_load : (port conns places : Option ℕ) (count : ℕ) → serve_order port conns places ≡ Some (Load count) → ⊥
no_load (Some port) (Some conns) (Some places) count e = cc
no_load (Some port) (Some conns) None count e = cc
no_load (Some port) None places count e = cc
no_load None conns places count e = cc

entered_count : (entered : Option (Text × List Row)) (count : ℕ) → order_at order_named entered ≡ Some (Load count) → IsRightCount count
entered_count None count e = cc
entered_count (Some command) count e = by (bytes_eq command.0 (codes "serve")) (bytes_eq command.0 (codes "load")) (bytes_eq command.0 (codes "replay")) (bytes_eq command.0 (codes "pipe")) (bytes_eq command.0 (codes "check")) e
  where
    by : (serves loads replays pipes checks : Bool)
        → (if serves then serve_order (port_at command.1) (conns_at command.1) (places_at command.1)
        else (if loads then load_order (count_at command.1) else (if replays then Some Replay else (if pipes then Some Pipe else (if checks then Some Check else None))))) ≡ Some (Load count)
        → IsRightCount count
    by true loads replays pipes checks e = absurd (no_load (port_at command.1) (conns_at command.1) (places_at command.1) count e)
    by false true replays pipes checks e = counted_at (first_of (codes "count") command.1) count (of_load (count_at command.1) count e)
    by false false true pipes checks e = cc
    by false false false true checks e = cc
    by false false false false true e = cc
    by false false false false false e = cc

right_count : (order : Order) (words : List Text) → IsOrderOf order words → HasRightCount order
right_count Replay words answers = tt
right_count Pipe words answers = tt
right_count (Serve port conns places) words answers = tt
right_count (Load count) words (inl read) = entered_count (subcommand_of line.hkms words) count read.1
right_count (Load count) words (inr (inl help)) = absurd help.0
right_count (Load count) words (inr (inr version)) = absurd version.0
right_count Check words answers = tt
right_count (Help text) words answers = tt
right_count (Version text) words answers = tt

pub counted_from : (r : Result Order OrderFault) (words : List Text) → IfOk r (λ o. IsOrderOf o words) → IfOk r HasRightCount
counted_from r words answers = IfOk-weaker r _ _ (λ order is. right_count order words is) answers

pub named_count : (count : ℕ) (words : List Text) → Names (Load count) words → IsRightCount count
named_count count words names = entered_count (subcommand_of line.hkms words) count names.command

-- ---- what is refused

fault_other : (t : Text) → IsRefusedWord 20000 t → fault_of line.hkms (codes "load" ∷ t ∷ []) ≡ ValueValidation ∷ []
unfolding clap_on_literals
fault_other t w = rw (w.no_dashes, w.no_long, w.no_short, w.refused) refl

beyond : (number : ℕ) → ¬ IsRightCount number → (number ≡ 0) ⊎ (20000 < number)
beyond number wrong = by (nat_le 1 number) (nat_le number 20000) refl refl
  where
    by : (some few : Bool) → nat_le 1 number ≡ some → nat_le number 20000 ≡ few → (number ≡ 0) ⊎ (20000 < number)
    by true true some few = absurd (wrong (grind (arith, nat_tests), grind (arith, nat_tests)))
    by true false some few = inr (grind (arith, nat_tests))
    by false few some f = inl (grind (arith, nat_tests))

pub wrong_count_is_refused : (number : ℕ) → number < 2 ^ 64 → ¬ IsRightCount number → IsMistake (line_fault (codes "load" ∷ decimal number ∷ []))
wrong_count_is_refused number small wrong =
    refused_by_clap line.hkms order_named _ ValueValidation (fault_other (decimal number) (other_number 20000 number small (beyond number wrong))) (λ e. cc) (λ e. cc)

pub no_number_is_refused : IsMistake (line_fault (codes "load" ∷ codes "one" ∷ []))
unfolding clap_on_literals
no_number_is_refused = refused_by_clap line.hkms order_named (codes "load" ∷ codes "one" ∷ []) ValueValidation refl (λ e. cc) (λ e. cc)

pub no_word_is_refused : IsMistake (line_fault (codes "load" ∷ []))
unfolding clap_on_literals
no_word_is_refused = refused_by_clap line.hkms order_named (codes "load" ∷ []) MissingRequiredArgument refl (λ e. cc) (λ e. cc)

pub one_more_is_refused : IsMistake (line_fault (codes "load" ∷ codes "1" ∷ codes "2" ∷ []))
unfolding clap_on_literals
one_more_is_refused = refused_by_clap line.hkms order_named (codes "load" ∷ codes "1" ∷ codes "2" ∷ []) UnknownArgument refl (λ e. cc) (λ e. cc)
