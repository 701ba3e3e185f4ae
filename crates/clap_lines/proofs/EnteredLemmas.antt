-- If clap finds no mistake, a command is entered: it has an order, or its values are the fault.
use Rattle.std.proofs.Common.{refl, List, [], ◌∷◌, ◌≡◌, Bool, true, false, Some, None, ap, ◌∙◌}
use Rattle.std.specs.Prelude.{Option, is_some, not, ◌&&◌}
use Rattle.clap.specs.Kinds.{Kinds, check_kinds, or_else}
use Rattle.clap.specs.Faults.{defaults_fault, entered_fault, settle_fault, walk_fault}
use Rattle.clap.specs.Simple.{App, argument_words, built, entered, names_of}
use Rattle.clap.specs.Walk.{Row, nothing_held, settled, walk, walk_from}
use Rattle.clap.specs.Words.{Text, fault_of, subcommand_of}
use Rattle.clap.specs.declared.error.ErrorKind.TheVariants.{ValueValidation}
use Rattle.clap_lines.specs.Orders.{line_fault, order_at, order_fault, values_refused}

second : (a b : Kinds) → or_else a b ≡ [] → b ≡ []
second [] b e = e
second (k ∷ ks) b e = cc

wanted : (has help required argument : Bool) → required ≡ true → check_kinds (not has && help) (not has && required) argument ≡ [] → has ≡ true
wanted true help required argument r e = refl
wanted false true required argument r e = cc
wanted false false true argument r e = cc
wanted false false false argument r e = cc

-- if a command is required and there is no fault, one was entered
is_entered : (a : App) (words : List Text) → (built a).top.subcommand_required ≡ true → fault_of a words ≡ [] → is_some (subcommand_of a words) ≡ true
is_entered a words required e =
    let b = built a in
    let end = walk b.top.rules (names_of b) nothing_held (argument_words a words) in
    let below = second (walk_fault b.top (names_of b) (walk_from nothing_held) (argument_words a words)) _ e in
    let settling = second (entered_fault b end.stopped) _ below in
    let defaults = second (settle_fault b.top.rules b.top.args_override_self end.held) _ settling in
    let checks = second (defaults_fault (settled b.top.rules end.held).rows b.top.rules) _ defaults in
    wanted (is_some (entered b end.stopped)) _ b.top.subcommand_required _ required checks

no_order : {O : Type 0} (order : Option O) → order ≡ None → order_fault order ≡ ValueValidation ∷ []
no_order (Some order) e = cc
no_order None e = refl

an_order : {O : Type 0} (given : Option O) (order : O) → given ≡ Some order → order_fault given ≡ []
an_order (Some given) order e = refl
an_order None order e = cc

module _ {O : Type 0} (a : App) (named : Text → List Row → Option O) where
  values_fail : (entered : Option (Text × List Row)) → is_some entered ≡ true → order_at named entered ≡ None → values_refused named entered ≡ ValueValidation ∷ []
  values_fail None h e = cc
  values_fail (Some command) h e = no_order (named command.0 command.1) e

  values_pass : (entered : Option (Text × List Row)) (order : O) → order_at named entered ≡ Some order → values_refused named entered ≡ []
  values_pass None order e = refl
  values_pass (Some command) order e = an_order (named command.0 command.1) order e

  -- words in which clap finds no fault, and which have no order, have a value that is refused
  pub a_value_is_refused : (words : List Text) → (built a).top.subcommand_required ≡ true → fault_of a words ≡ [] → order_at named (subcommand_of a words) ≡ None
      → line_fault a named words ≡ ValueValidation ∷ []
  a_value_is_refused words required e none =
      ap (λ (kinds : Kinds). or_else kinds (values_refused named (subcommand_of a words))) e ∙ values_fail (subcommand_of a words) (is_entered a words required e) none

  -- words in which clap finds no fault, and which have an order, have no fault
  pub no_value_is_refused : (words : List Text) (order : O) → fault_of a words ≡ [] → order_at named (subcommand_of a words) ≡ Some order → line_fault a named words ≡ []
  no_value_is_refused words order e is =
      ap (λ (kinds : Kinds). or_else kinds (values_refused named (subcommand_of a words))) e ∙ values_pass (subcommand_of a words) order is
