-- The order that a reading of the words without a mistake gives.
use Rattle.std.proofs.Common.{refl, List, [], ◌∷◌, ◌≡◌, ◌≢◌, ◌⊎◌, inl, inr, ap, ◌∙◌, sym, subst, true}
use Rattle.std.specs.Prelude.{Option, None, Some, Result, Ok, Err, IfOk, IfErr, MatchResult}
use Rattle.clap.specs.Kinds.{Kinds, or_else}
use Rattle.clap.specs.Simple.{built}
use Rattle.clap.specs.Words.{App, fault_of, subcommand_of, Row, Text, IsAmong}
use Rattle.clap.specs.declared.error.ErrorKind.{ErrorKind}
use Rattle.clap.specs.declared.error.ErrorKind.TheVariants.{DisplayHelp, DisplayVersion, OutOfMemory, ValueValidation}
use Rattle.clap_lines.specs.Orders.{AnswersWords, HasMistake, HasOrder, IsMistake, IsShown, ShownAs, line_fault, order_at, order_fault, values_refused}
use Rattle.clap_lines.specs.Shown.{IsOneKind}
use Rattle.clap_lines.specs.declared.told.OrderFault.{OrderFault}
use Rattle.clap_lines.specs.declared.told.OrderFault.TheVariants.{Usage, NoMemory}
use Rattle.clap_lines.proofs.EnteredLemmas.{a_value_is_refused, no_value_is_refused}
use Rattle.clap_lines.proofs.KindLemmas.{alone, among-first, fault-single, single-or}

-- what the declaration of a program with commands says: there is no command `help`, and a command is required
pub record IsPlainApp (a : App) : Type 0 where
  pub quiet : (built a).top.disable_help_subcommand ≡ true
  pub required : (built a).top.subcommand_required ≡ true

one_mistake : (kinds : Kinds) (kind : ErrorKind) → kinds ≡ kind ∷ [] → kind ≢ DisplayHelp → kind ≢ DisplayVersion → IsMistake kinds
one_mistake kinds kind is no_help no_version = (
  λ e. let bad : kind ∷ [] ≡ [] = sym is ∙ e in cc,
  λ k among. of (subst (IsAmong k) is among),
)
  where
    of : {k : ErrorKind} → IsAmong k (kind ∷ []) → (k ≢ DisplayHelp) × (k ≢ DisplayVersion)
    of (inl e) = ((λ h. no_help (sym e ∙ h)), (λ v. no_version (sym e ∙ v)))
    of (inr none) = absurd none

order-single : {O : Type 0} (order : Option O) → IsOneKind (order_fault order)
order-single (Some order) = tt
order-single None = tt

module _ {O : Type 0} (a : App) (named : Text → List Row → Option O) where
  values-single : (entered : Option (Text × List Row)) → IsOneKind (values_refused named entered)
  values-single None = tt
  values-single (Some command) = order-single (named command.0 command.1)

  line-single : (words : List Text) → IsPlainApp a → IsOneKind (line_fault a named words)
  line-single words plain =
      single-or (fault_of a words) (values_refused named (subcommand_of a words)) (fault-single a words plain.quiet) (values-single (subcommand_of a words))

  -- a kind that is shown is the only one
  shown_alone : (words : List Text) (k j : ErrorKind) → IsPlainApp a → IsAmong k (line_fault a named words) → IsAmong j (line_fault a named words)
      → (j ≡ DisplayHelp) ⊎ (j ≡ DisplayVersion) → k ≡ j
  shown_alone words k j plain x y s = alone (line_fault a named words) k j (line-single words plain) x y s

  -- the kinds that clap finds are those of the words
  pub found_by_clap : (words : List Text) (k : ErrorKind) → IsAmong k (fault_of a words) → IsAmong k (line_fault a named words)
  found_by_clap words k among = among-first (fault_of a words) (values_refused named (subcommand_of a words)) k among

  -- ---- what is refused

  -- what clap refuses is refused
  pub refused_by_clap : (words : List Text) (kind : ErrorKind) → fault_of a words ≡ kind ∷ [] → kind ≢ DisplayHelp → kind ≢ DisplayVersion → IsMistake (line_fault a named words)
  refused_by_clap words kind is no_help no_version =
      one_mistake (line_fault a named words) kind (ap (λ (kinds : Kinds). or_else kinds (values_refused named (subcommand_of a words))) is) no_help no_version

  pub refused_by_value : (words : List Text) → IsPlainApp a → fault_of a words ≡ [] → order_at named (subcommand_of a words) ≡ None → IsMistake (line_fault a named words)
  refused_by_value words plain e none =
      one_mistake (line_fault a named words) ValueValidation (a_value_is_refused a named words plain.required e none) (λ h. cc) (λ v. cc)

  -- words that spell an order name it
  pub named_at : (words at : List Text) (o : O) → words ≡ at → fault_of a at ≡ [] → order_at named (subcommand_of a at) ≡ Some o → HasOrder a named o words
  named_at words at o e f g = subst (λ (w : List Text). HasOrder a named o w) (sym e) (record { no_fault = no_value_is_refused a named at o f g; command = g })

  -- ---- what clap's reading without a fault comes to

  abbrev pub Ordered : List Text → Result O OrderFault → Type 0
  Ordered words r = MatchResult r (λ order. order_at named (subcommand_of a words) ≡ Some order) (λ fault. fault ≡ Usage → order_at named (subcommand_of a words) ≡ None)

  pub ordered_by : (r : Result O OrderFault) (words : List Text) (entered : Option (Text × List Row)) → entered ≡ subcommand_of a words
      → MatchResult r (λ order. order_at named entered ≡ Some order) (λ fault. fault ≡ Usage → order_at named entered ≡ None) → Ordered words r
  ordered_by r words entered is read =
      subst (λ (e : Option (Text × List Row)). MatchResult r (λ order. order_at named e ≡ Some order) (λ fault. fault ≡ Usage → order_at named e ≡ None)) is read

  pub refusal_from : (r : Result O OrderFault) (words : List Text) → IsPlainApp a → fault_of a words ≡ [] → Ordered words r → IfErr r (λ fault. fault ≡ Usage → HasMistake (line_fault a named words))
  refusal_from (Ok order) words plain e is = tt
  refusal_from (Err fault) words plain e is =
      λ u. subst HasMistake (sym (a_value_is_refused a named words plain.required e (is u))) (ValueValidation, inl refl, (λ q. cc), (λ q. cc))

  pub usage_from : (r : Result O OrderFault) (words : List Text) → IsPlainApp a → IfErr r (λ f. f ≡ Usage → HasMistake (line_fault a named words))
      → IfErr r (λ f. f ≡ Usage → IsMistake (line_fault a named words))
  usage_from (Ok o) words plain g = tt
  usage_from (Err f) words plain g = λ u.
      let m = g u in (
        (λ e. subst (IsAmong m.0) e m.1),
        (λ k x. ((λ e. m.2 (shown_alone words m.0 k plain m.1 x (inl e) ∙ e)), (λ e. m.3 (shown_alone words m.0 k plain m.1 x (inr e) ∙ e)))),
      )

  module _ (IsHelp IsVersion : O → Type 0) where
    pub order_from : (r : Result O OrderFault) (words : List Text) → fault_of a words ≡ [] → Ordered words r → IfOk r (λ order. AnswersWords a named IsHelp IsVersion order words)
    order_from (Ok order) words e is = inl (no_value_is_refused a named words order e is, is)
    order_from (Err fault) words e is = tt

    pub named_from : (r : Result O OrderFault) (words : List Text) → IfOk r (λ o. AnswersWords a named IsHelp IsVersion o words)
        → IfErr r (λ f. f ≡ Usage → HasMistake (line_fault a named words)) → (o : O) → HasOrder a named o words → (r ≡ Ok o) ⊎ (r ≡ Err NoMemory)
    named_from (Err NoMemory) words h g o n = inr refl
    named_from (Err Usage) words h g o n = absurd (subst (IsAmong (g refl).0) n.no_fault (g refl).1)
    named_from (Ok x) words (inl p) g o n =
        let is = n.command in
        let same : x ≡ o = cc (p.1, is) in
        inl (ap Ok same)
    named_from (Ok x) words (inr (inl q)) g o n = absurd (subst (IsAmong DisplayHelp) n.no_fault q.1)
    named_from (Ok x) words (inr (inr q)) g o n = absurd (subst (IsAmong DisplayVersion) n.no_fault q.1)

    pub mistake_from : (r : Result O OrderFault) (words : List Text) → IfOk r (λ o. AnswersWords a named IsHelp IsVersion o words) → IsMistake (line_fault a named words)
        → (r ≡ Err Usage) ⊎ (r ≡ Err NoMemory)
    mistake_from (Err NoMemory) words h m = inr refl
    mistake_from (Err Usage) words h m = inl refl
    mistake_from (Ok x) words (inl p) m = absurd (m.0 p.0)
    mistake_from (Ok x) words (inr (inl q)) m = absurd ((m.1 DisplayHelp q.1).0 refl)
    mistake_from (Ok x) words (inr (inr q)) m = absurd ((m.1 DisplayVersion q.1).1 refl)

    -- help and the version are not asked for at once, nor beside a mistake
    pub help_from : (r : Result O OrderFault) (words : List Text) → IsPlainApp a → IfOk r (λ o. AnswersWords a named IsHelp IsVersion o words)
        → IfErr r (λ f. f ≡ Usage → HasMistake (line_fault a named words)) → IsAmong DisplayHelp (line_fault a named words) → ShownAs IsHelp r
    help_from (Err NoMemory) words plain h g x = refl
    help_from (Err Usage) words plain h g x = let m = g refl in absurd (m.2 (shown_alone words m.0 DisplayHelp plain m.1 x (inl refl)))
    help_from (Ok o) words plain (inl p) g x = absurd (subst (IsAmong DisplayHelp) p.0 x)
    help_from (Ok o) words plain (inr (inl q)) g x = q.0
    help_from (Ok o) words plain (inr (inr q)) g x = let bad : DisplayVersion ≡ DisplayHelp = shown_alone words DisplayVersion DisplayHelp plain q.1 x (inl refl) in cc

    pub version_from : (r : Result O OrderFault) (words : List Text) → IsPlainApp a → IfOk r (λ o. AnswersWords a named IsHelp IsVersion o words)
        → IfErr r (λ f. f ≡ Usage → HasMistake (line_fault a named words)) → IsAmong DisplayVersion (line_fault a named words) → ShownAs IsVersion r
    version_from (Err NoMemory) words plain h g x = refl
    version_from (Err Usage) words plain h g x = let m = g refl in absurd (m.3 (shown_alone words m.0 DisplayVersion plain m.1 x (inr refl)))
    version_from (Ok o) words plain (inl p) g x = absurd (subst (IsAmong DisplayVersion) p.0 x)
    version_from (Ok o) words plain (inr (inl q)) g x = let bad : DisplayHelp ≡ DisplayVersion = shown_alone words DisplayHelp DisplayVersion plain q.1 x (inr refl) in cc
    version_from (Ok o) words plain (inr (inr q)) g x = q.0

    -- a text that an error shows was asked for
    pub shown_from : (o : O) (kind : ErrorKind) (words : List Text) → IsShown IsHelp IsVersion o kind → (kind ≡ OutOfMemory) ⊎ IsAmong kind (fault_of a words)
        → (IsHelp o × IsAmong DisplayHelp (line_fault a named words)) ⊎ (IsVersion o × IsAmong DisplayVersion (line_fault a named words))
    shown_from o kind words (inl s) (inl e) = let bad : DisplayHelp ≡ OutOfMemory = sym s.1 ∙ e in cc
    shown_from o kind words (inr s) (inl e) = let bad : DisplayVersion ≡ OutOfMemory = sym s.1 ∙ e in cc
    shown_from o kind words (inl s) (inr x) = inl (s.0, found_by_clap words DisplayHelp (subst (λ k. IsAmong k (fault_of a words)) s.1 x))
    shown_from o kind words (inr s) (inr x) = inr (s.0, found_by_clap words DisplayVersion (subst (λ k. IsAmong k (fault_of a words)) s.1 x))
