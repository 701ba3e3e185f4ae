-- What clap's parse of the words says of the order that comes of it. `given` is the command that was declared, and `a` its definition.
use Rattle.std.proofs.Common.{List, [], ◌≡◌, ◌≢◌, ◌∙◌, ap, inl, inr, subst, true}
use Rattle.std.specs.Prelude.{Option, None, Some, Result, IfErr, IfOk, MatchResult}
use Rattle.std.proofs.lemmas.Result.{IfErr-weaker, IfOk-weaker}
use Rattle.clap.specs.Words.{App, HasKind, Row, Text, fault_of, is_simple, is_simple_and_free, kind_of, subcommand_of}
use Rattle.clap.specs.declared.error.Error.{Error}
use Rattle.clap.specs.declared.error.ErrorKind.TheVariants.{DisplayHelp, DisplayVersion, OutOfMemory}
use Rattle.clap_lines.specs.Orders.{AnswersWords, HasMistake, IsShown, line_fault, order_at}
use Rattle.clap_lines.specs.declared.told.OrderFault.{OrderFault}
use Rattle.clap_lines.specs.declared.told.OrderFault.TheVariants.{Usage}
use Rattle.clap_lines.proofs.OrderLemmas.{IsPlainApp, found_by_clap, order_from, ordered_by, refusal_from, shown_from}

-- clap's contract says what it finds in the words of such a program
pub record IsKnownApp (a : App) : Type 0 where
  pub simple : is_simple a ≡ true
  pub free : is_simple_and_free a ≡ true
  pub plain : IsPlainApp a

has_kind : (a given : App) (words : List Text) (error : Error) → IsKnownApp a → given ≡ a → (is_simple_and_free given ≡ true → HasKind (fault_of given words) error) → HasKind (fault_of a words) error
has_kind a given words error known same kinds = subst (λ (x : App). HasKind (fault_of x words) error) same (kinds (ap is_simple_and_free same ∙ known.free))

no_kind : (a given : App) (words : List Text) → IsKnownApp a → given ≡ a → (is_simple_and_free given ≡ true → fault_of given words ≡ []) → fault_of a words ≡ []
no_kind a given words known same kinds = subst (λ (x : App). fault_of x words ≡ []) same (kinds (ap is_simple_and_free same ∙ known.free))

entered_at : (a given : App) (words : List Text) (entered : Option (Text × List Row)) → IsKnownApp a → given ≡ a → (is_simple given ≡ true → entered ≡ subcommand_of given words) → entered ≡ subcommand_of a words
entered_at a given words entered known same enters = enters (ap is_simple same ∙ known.simple) ∙ ap (λ (x : App). subcommand_of x words) same

module _ {O : Type 0} (a : App) (named : Text → List Row → Option O) (known : IsKnownApp a) (given : App) (same : given ≡ a) (words : List Text) where
  -- an error that shows nothing is a mistake
  pub mistake_of_error : (r : Result O OrderFault) (error : Error) → (is_simple_and_free given ≡ true → HasKind (fault_of given words) error)
      → IfErr r (λ fault. fault ≡ Usage → (kind_of error ≢ OutOfMemory) × (kind_of error ≢ DisplayHelp) × (kind_of error ≢ DisplayVersion))
      → IfErr r (λ fault. fault ≡ Usage → HasMistake (line_fault a named words))
  mistake_of_error r error kinds usage =
      IfErr-weaker r _ _
      (λ f h u. elim (has_kind a given words error known same kinds) [
        | inl memory ↦ absurd ((h u).0 memory)
        | inr among ↦ (kind_of error, found_by_clap a named words (kind_of error) among, (h u).1, (h u).2)
      ])
      usage

  -- values that are refused are a mistake
  pub mistake_of_values : (r : Result O OrderFault) (entered : Option (Text × List Row)) → (is_simple_and_free given ≡ true → fault_of given words ≡ []) → (is_simple given ≡ true → entered ≡ subcommand_of given words)
      → MatchResult r (λ order. order_at named entered ≡ Some order) (λ fault. fault ≡ Usage → order_at named entered ≡ None)
      → IfErr r (λ fault. fault ≡ Usage → HasMistake (line_fault a named words))
  mistake_of_values r entered kinds enters read =
      refusal_from a named r words known.plain (no_kind a given words known same kinds) (ordered_by a named r words entered (entered_at a given words entered known same enters) read)

  module _ (IsHelp IsVersion : O → Type 0) where
    -- a text that an error shows
    pub answer_of_error : (r : Result O OrderFault) (error : Error) → (is_simple_and_free given ≡ true → HasKind (fault_of given words) error) → IfOk r (λ order. IsShown IsHelp IsVersion order (kind_of error))
        → IfOk r (λ order. AnswersWords a named IsHelp IsVersion order words)
    answer_of_error r error kinds shown =
        IfOk-weaker r _ _ (λ o is. inr (shown_from a named IsHelp IsVersion o (kind_of error) words is (has_kind a given words error known same kinds))) shown

    -- the order of the values
    pub answer_of_values : (r : Result O OrderFault) (entered : Option (Text × List Row)) → (is_simple_and_free given ≡ true → fault_of given words ≡ []) → (is_simple given ≡ true → entered ≡ subcommand_of given words)
        → MatchResult r (λ order. order_at named entered ≡ Some order) (λ fault. fault ≡ Usage → order_at named entered ≡ None)
        → IfOk r (λ order. AnswersWords a named IsHelp IsVersion order words)
    answer_of_values r entered kinds enters read =
        order_from a named IsHelp IsVersion r words (no_kind a given words known same kinds) (ordered_by a named r words entered (entered_at a given words entered known same enters) read)
