-- The orders that the words of the commands name.
use Rattle.std.proofs.Common.{refl, codes, List, [], ◌∷◌, ◌≡◌, inl, inr, ap, sym, subst, arith}
use Rattle.std.specs.Prelude.{Option, None, Some, Result, MatchResult}
use Rattle.std.proofs.lemmas.Fmt.{decimal_digit}
use Rattle.std.specs.Option.{ok_or}
use Rattle.clap.specs.Words.{Row, Text}
use Rattle.clap.proofs.OnLiterals.{clap_on_literals}
use Rattle.clap_lines.specs.Orders.{order_at}
use Rattle.clap_lines.specs.declared.told.OrderFault.{OrderFault}
use Rattle.clap_lines.specs.declared.told.OrderFault.TheVariants.{Usage}
use Rattle.clap_lines.proofs.OrderLemmas.{IsPlainApp}
use Rattle.clap_lines.proofs.ParseLemmas.{IsKnownApp}
use Rattle.command_line.specs.Line as line
use Rattle.command_line.specs.Orders.{IsSpelled, Names, order_named}
use Rattle.command_line.specs.declared.order.Order.{Order}
use Rattle.command_line.specs.declared.order.Order.TheVariants.{Replay, Pipe, Serve, Load, Check, Help, Version}
use Rattle.command_line.proofs.LoadLemmas.{load_reads}
use Rattle.command_line.proofs.SpellingLemmas.{Reading, reads_places, serve_reads}

-- the program has no command `help`, and wants a command
pub plain : IsPlainApp line.hkms
plain = record { quiet = refl; required = refl }

pub known : IsKnownApp line.hkms
unfolding clap_on_literals
known = record { simple = refl; free = refl; plain = plain }

-- the commands alone

pub replay_is_named : Names Replay (codes "replay" ∷ [])
unfolding clap_on_literals
replay_is_named = record { no_fault = refl; command = refl }

pub pipe_is_named : Names Pipe (codes "pipe" ∷ [])
unfolding clap_on_literals
pipe_is_named = record { no_fault = refl; command = refl }

pub check_is_named : Names Check (codes "check" ∷ [])
unfolding clap_on_literals
check_is_named = record { no_fault = refl; command = refl }

replay_reads : Reading (codes "replay" ∷ []) Replay
unfolding Reading
replay_reads = replay_is_named

pipe_reads : Reading (codes "pipe" ∷ []) Pipe
unfolding Reading
pipe_reads = pipe_is_named

check_reads : Reading (codes "check" ∷ []) Check
unfolding Reading
check_reads = check_is_named

-- words that spell an order

spelled : (o : Order) (words : List Text) → IsSpelled o words → Reading words o
spelled Replay words s = rw s replay_reads
spelled Pipe words s = rw s pipe_reads
spelled (Serve port conns places) words (inl (at_a_time, port_words, conns_words, port_is, conns_is, order)) =
    serve_reads port conns places words port_words conns_words at_a_time port_is conns_is order
spelled (Serve port conns places) words (inr (port_is, conns_is, places_words, places_is, is)) = reads_places port conns places words places_words port_is conns_is places_is is
spelled (Load count) words s = load_reads count words s.0 s.1
spelled Check words s = rw s check_reads
spelled (Help text) words s = absurd s
spelled (Version text) words s = absurd s

-- words that spell an order name it
pub spelling_is_named : (o : Order) (words : List Text) → IsSpelled o words → Names o words
unfolding Reading
spelling_is_named o words s = spelled o words s

pub serve_is_named : Names (Serve 9600 4294967295 16) (codes "serve" ∷ [])
serve_is_named =
    spelling_is_named (Serve 9600 4294967295 16) _ (inl (refl, [], [], inl (refl, refl), inl (refl, refl), inl refl))

pub options_name : Names (Serve 1 2 16) (codes "serve" ∷ codes "--port" ∷ codes "1" ∷ codes "--conns" ∷ codes "2" ∷ [])
options_name =
    spelling_is_named (Serve 1 2 16) _ (inl (
      refl,
      codes "--port" ∷ codes "1" ∷ [],
      codes "--conns" ∷ codes "2" ∷ [],
      inr (omega arith, omega arith, inl (ap (λ x. codes "--port" ∷ x ∷ []) (sym (decimal_digit 1 (omega arith))))),
      inr (omega arith, omega arith, inl (ap (λ x. codes "--conns" ∷ x ∷ []) (sym (decimal_digit 2 (omega arith))))),
      inl refl,
    ))

pub connections_name : Names (Serve 9600 4294967295 3) (codes "serve" ∷ codes "--connections" ∷ codes "3" ∷ [])
connections_name =
    spelling_is_named (Serve 9600 4294967295 3) _ (inr (
      refl,
      refl,
      codes "--connections" ∷ codes "3" ∷ [],
      inr (omega arith, omega arith, inl (ap (λ x. codes "--connections" ∷ x ∷ []) (sym (decimal_digit 3 (omega arith))))),
      refl,
    ))

pub load_is_named : Names (Load 1) (codes "load" ∷ codes "1" ∷ [])
load_is_named =
    spelling_is_named (Load 1) _ ((omega arith, omega arith), ap (λ x. codes "load" ∷ x ∷ []) (sym (decimal_digit 1 (omega arith))))

abbrev pub OrderRead : Type 0
OrderRead = Result Order OrderFault

-- what clap's reading without a fault comes to
pub ordered : (r : OrderRead) (o : Option Order) (entered : Option (Text × List Row)) → r ≡ ok_or o Usage → o ≡ order_at order_named entered
    → MatchResult r (λ order. order_at order_named entered ≡ Some order) (λ fault. fault ≡ Usage → order_at order_named entered ≡ None)
ordered r o entered value is = subst (λ (x : OrderRead). MatchResult x (λ order. order_at order_named entered ≡ Some order) (λ fault. fault ≡ Usage → order_at order_named entered ≡ None)) (sym value) (by o is)
  where
    by : (o : Option Order) → o ≡ order_at order_named entered → MatchResult (ok_or o Usage) (λ order. order_at order_named entered ≡ Some order) (λ fault. fault ≡ Usage → order_at order_named entered ≡ None)
    by (Some order) is = sym is
    by None is = λ usage. sym is
