-- What the words of a command line come to.
use Rattle.std.proofs.Common.{refl, codes, List, [], ◌∷◌, ◌≡◌, ◌≢◌, ◌⊎◌, inl, inr, ap, sym, subst, ◌∙◌, Option, Some, None, Bool, true, false}
use Rattle.clap.specs.Words.{IsAmong, Kinds, Text, fault_of, subcommand_of}
use Rattle.clap.specs.Faults.{entered_fault, walk_fault}
use Rattle.clap.specs.Kinds.{or_else}
use Rattle.clap.specs.Simple.{App, built, names_of}
use Rattle.clap.specs.Walk.{Walk, nothing_held, walk, walk_from, walked}
use Rattle.clap.proofs.FaultLemmas.{stopped_fault}
use Rattle.clap.proofs.WalkLemmas.{walk_stopped}
use Rattle.clap.proofs.OnLiterals.{clap_on_literals}
use Rattle.clap.specs.declared.error.ErrorKind.{ErrorKind}
use Rattle.clap.specs.declared.error.ErrorKind.TheVariants.{DisplayHelp, DisplayVersion, ValueValidation}
use Rattle.clap_lines.specs.Orders.{IsMistake, order_at}
use Rattle.clap_lines.proofs.EnteredLemmas.{a_value_is_refused}
use Rattle.clap_lines.proofs.OrderLemmas.{found_by_clap}
use Rattle.command_line.specs.Line as line
use Rattle.command_line.specs.Orders.{AsksForHelp, AsksForVersion, FindsHelp, FindsVersion, IsCommand, IsHelpFlag, Names, line_fault, order_named}
use Rattle.command_line.specs.declared.order.Order.{Order}
use Rattle.command_line.proofs.OrderLemmas.{plain, spelling_is_named}
use Rattle.text_laws.specs.Lines.{AreWordsRead, AskedIsFound, IsNoText, IsReadOnce, SpelledIsNamed}

is_help : ErrorKind → Bool
is_help DisplayHelp = true
is_help _ = false

is_version : ErrorKind → Bool
is_version DisplayVersion = true
is_version _ = false

help_is : (k : ErrorKind) → is_help k ≡ true → DisplayHelp ≡ k
unfolding is_help
help_is DisplayHelp e = refl
help_is _ e = cc

version_is : (k : ErrorKind) → is_version k ≡ true → DisplayVersion ≡ k
unfolding is_version
version_is DisplayVersion e = refl
version_is _ e = cc

not_help : (k : ErrorKind) → is_help k ≡ false → k ≢ DisplayHelp
unfolding is_help
not_help k e is = let no : true ≡ false = ap is_help (sym is) ∙ e in cc

not_version : (k : ErrorKind) → is_version k ≡ false → k ≢ DisplayVersion
unfolding is_version
not_version k e is = let no : true ≡ false = ap is_version (sym is) ∙ e in cc

abbrev IsUnshown : Kinds → Type 0
IsUnshown ks = (k : ErrorKind) → IsAmong k ks → (k ≢ DisplayHelp) × (k ≢ DisplayVersion)

abbrev IsSorted : Kinds → Type 0
IsSorted ks = (IsAmong DisplayHelp ks ⊎ IsAmong DisplayVersion ks) ⊎ IsUnshown ks

none_shown : IsUnshown []
none_shown k a = absurd a

one_more : (x : ErrorKind) (ks : Kinds) → is_help x ≡ false → is_version x ≡ false → IsUnshown ks → IsUnshown (x ∷ ks)
one_more x ks h v unshown k (inl e) = (λ is. not_help x h (sym e ∙ is), λ is. not_version x v (sym e ∙ is))
one_more x ks h v unshown k (inr a) = unshown k a

sorted : (ks : Kinds) → IsSorted ks
sorted [] = inr none_shown
sorted (x ∷ ks) = by (is_help x) (is_version x) refl refl (sorted ks)
  where
    by : (h v : Bool) → is_help x ≡ h → is_version x ≡ v → IsSorted ks → IsSorted (x ∷ ks)
    by true v h e later = inl (inl (inl (help_is x h)))
    by false true h e later = inl (inr (inl (version_is x e)))
    by false false h e (inl (inl a)) = inl (inl (inr a))
    by false false h e (inl (inr a)) = inl (inr (inr a))
    by false false h e (inr unshown) = inr (one_more x ks h e unshown)

ordered : (words : List Text) → line_fault words ≡ [] → (o : Option Order) → order_at order_named (subcommand_of line.hkms words) ≡ o → AreWordsRead words
ordered words e (Some order) is = inr (inr (order, record { no_fault = e; command = is }))
ordered words e None is = let no : ValueValidation ∷ [] ≡ [] = sym (a_value_is_refused line.hkms order_named words plain.required (none_of_clap (fault_of line.hkms words) _ e) is) ∙ e in cc
  where
    none_of_clap : (some other : Kinds) → or_else some other ≡ [] → some ≡ []
    none_of_clap [] other e = refl
    none_of_clap (k ∷ ks) other e = cc

pub every_line : (words : List Text) → AreWordsRead words
every_line words = by (line_fault words) refl (sorted (line_fault words))
  where
    by : (ks : Kinds) → line_fault words ≡ ks → IsSorted (line_fault words) → AreWordsRead words
    by ks e (inl shown) = inr (inl shown)
    by [] e (inr unshown) = ordered words e (order_at order_named (subcommand_of line.hkms words)) refl
    by (k ∷ ks) e (inr unshown) = inl ((λ is. absurd (some k ks (sym e ∙ is))), unshown)
      where
        some : (k : ErrorKind) (ks : Kinds) → k ∷ ks ≢ []
        some k ks e = cc

nothing_among : (words : List Text) (k : ErrorKind) → line_fault words ≡ [] → IsAmong k (line_fault words) → ⊥
nothing_among words k e a = subst (IsAmong k) e a

pub no_text : (words : List Text) → IsNoText words
no_text words mistake (inl help) = (mistake.1 DisplayHelp help).0 refl
no_text words mistake (inr version) = (mistake.1 DisplayVersion version).1 refl

same_order : (words : List Text) (order other : Order) → Names order words → Names other words → order ≡ other
same_order words order other named also = let both : Some order ≡ Some other = sym named.command ∙ also.command in cc

pub one_order : (words : List Text) → IsReadOnce words
one_order words order named = (λ other also. same_order words order other named also, λ bad. none bad)
  where
    none : IsMistake (line_fault words) ⊎ (FindsHelp words ⊎ FindsVersion words) → ⊥
    none (inl mistake) = mistake.0 named.no_fault
    none (inr (inl help)) = nothing_among words DisplayHelp named.no_fault help
    none (inr (inr version)) = nothing_among words DisplayVersion named.no_fault version

pub spelled_is_named : (words : List Text) → SpelledIsNamed words
spelled_is_named words order spelled = spelling_is_named order words spelled

asked_first : (words : List Text) (flag : Text) (more : List Text) → IsHelpFlag flag → words ≡ flag ∷ more → fault_of line.hkms words ≡ DisplayHelp ∷ []
unfolding clap_on_literals
asked_first words flag more (inl f) w = rw (w, f) refl
asked_first words flag more (inr f) w = rw (w, f) refl

-- the program, and its walk after a first word
abbrev program : App
program = built line.hkms

abbrev start : Text → Walk
start command = walked program.top.rules (names_of program) (walk_from nothing_held) command

-- the program leaves the words after a command to it
none_above : (command flag : Text) (more : List Text) → IsCommand command → IsHelpFlag flag → walk_fault program.top (names_of program) (walk_from nothing_held) (command ∷ flag ∷ more) ≡ []
unfolding clap_on_literals
none_above command flag more (inl c) (inl f) = rw (c, f) (stopped_fault program.top (names_of program) (start (codes "replay")) (codes "replay", codes "--help" ∷ []) more)
none_above command flag more (inl c) (inr f) = rw (c, f) (stopped_fault program.top (names_of program) (start (codes "replay")) (codes "replay", codes "-h" ∷ []) more)
none_above command flag more (inr (inl c)) (inl f) = rw (c, f) (stopped_fault program.top (names_of program) (start (codes "pipe")) (codes "pipe", codes "--help" ∷ []) more)
none_above command flag more (inr (inl c)) (inr f) = rw (c, f) (stopped_fault program.top (names_of program) (start (codes "pipe")) (codes "pipe", codes "-h" ∷ []) more)
none_above command flag more (inr (inr (inl c))) (inl f) = rw (c, f) (stopped_fault program.top (names_of program) (start (codes "serve")) (codes "serve", codes "--help" ∷ []) more)
none_above command flag more (inr (inr (inl c))) (inr f) = rw (c, f) (stopped_fault program.top (names_of program) (start (codes "serve")) (codes "serve", codes "-h" ∷ []) more)
none_above command flag more (inr (inr (inr (inl c)))) (inl f) = rw (c, f) (stopped_fault program.top (names_of program) (start (codes "load")) (codes "load", codes "--help" ∷ []) more)
none_above command flag more (inr (inr (inr (inl c)))) (inr f) = rw (c, f) (stopped_fault program.top (names_of program) (start (codes "load")) (codes "load", codes "-h" ∷ []) more)
none_above command flag more (inr (inr (inr (inr c)))) (inl f) = rw (c, f) (stopped_fault program.top (names_of program) (start (codes "check")) (codes "check", codes "--help" ∷ []) more)
none_above command flag more (inr (inr (inr (inr c)))) (inr f) = rw (c, f) (stopped_fault program.top (names_of program) (start (codes "check")) (codes "check", codes "-h" ∷ []) more)

stops_at : (command flag : Text) (more : List Text) → IsCommand command → IsHelpFlag flag
    → (walk program.top.rules (names_of program) nothing_held (command ∷ flag ∷ more)).stopped ≡ Some (command, flag ∷ more)
unfolding clap_on_literals
stops_at command flag more (inl c) (inl f) = rw (c, f) (ap (λ (w : Walk). w.stopped) (sym (walk_stopped program.top.rules (names_of program) (start (codes "replay")) (codes "replay") (codes "--help" ∷ []) more)))
stops_at command flag more (inl c) (inr f) = rw (c, f) (ap (λ (w : Walk). w.stopped) (sym (walk_stopped program.top.rules (names_of program) (start (codes "replay")) (codes "replay") (codes "-h" ∷ []) more)))
stops_at command flag more (inr (inl c)) (inl f) = rw (c, f) (ap (λ (w : Walk). w.stopped) (sym (walk_stopped program.top.rules (names_of program) (start (codes "pipe")) (codes "pipe") (codes "--help" ∷ []) more)))
stops_at command flag more (inr (inl c)) (inr f) = rw (c, f) (ap (λ (w : Walk). w.stopped) (sym (walk_stopped program.top.rules (names_of program) (start (codes "pipe")) (codes "pipe") (codes "-h" ∷ []) more)))
stops_at command flag more (inr (inr (inl c))) (inl f) = rw (c, f) (ap (λ (w : Walk). w.stopped) (sym (walk_stopped program.top.rules (names_of program) (start (codes "serve")) (codes "serve") (codes "--help" ∷ []) more)))
stops_at command flag more (inr (inr (inl c))) (inr f) = rw (c, f) (ap (λ (w : Walk). w.stopped) (sym (walk_stopped program.top.rules (names_of program) (start (codes "serve")) (codes "serve") (codes "-h" ∷ []) more)))
stops_at command flag more (inr (inr (inr (inl c)))) (inl f) = rw (c, f) (ap (λ (w : Walk). w.stopped) (sym (walk_stopped program.top.rules (names_of program) (start (codes "load")) (codes "load") (codes "--help" ∷ []) more)))
stops_at command flag more (inr (inr (inr (inl c)))) (inr f) = rw (c, f) (ap (λ (w : Walk). w.stopped) (sym (walk_stopped program.top.rules (names_of program) (start (codes "load")) (codes "load") (codes "-h" ∷ []) more)))
stops_at command flag more (inr (inr (inr (inr c)))) (inl f) = rw (c, f) (ap (λ (w : Walk). w.stopped) (sym (walk_stopped program.top.rules (names_of program) (start (codes "check")) (codes "check") (codes "--help" ∷ []) more)))
stops_at command flag more (inr (inr (inr (inr c)))) (inr f) = rw (c, f) (ap (λ (w : Walk). w.stopped) (sym (walk_stopped program.top.rules (names_of program) (start (codes "check")) (codes "check") (codes "-h" ∷ []) more)))

help_below : (command flag : Text) (more : List Text) → IsCommand command → IsHelpFlag flag → entered_fault program (Some (command, flag ∷ more)) ≡ DisplayHelp ∷ []
unfolding clap_on_literals
help_below command flag more (inl c) (inl f) = rw (c, f) refl
help_below command flag more (inl c) (inr f) = rw (c, f) refl
help_below command flag more (inr (inl c)) (inl f) = rw (c, f) refl
help_below command flag more (inr (inl c)) (inr f) = rw (c, f) refl
help_below command flag more (inr (inr (inl c))) (inl f) = rw (c, f) refl
help_below command flag more (inr (inr (inl c))) (inr f) = rw (c, f) refl
help_below command flag more (inr (inr (inr (inl c)))) (inl f) = rw (c, f) refl
help_below command flag more (inr (inr (inr (inl c)))) (inr f) = rw (c, f) refl
help_below command flag more (inr (inr (inr (inr c)))) (inl f) = rw (c, f) refl
help_below command flag more (inr (inr (inr (inr c)))) (inr f) = rw (c, f) refl

first_kind : (some below rest : Kinds) → some ≡ [] → below ≡ DisplayHelp ∷ [] → or_else some (or_else below rest) ≡ DisplayHelp ∷ []
first_kind some below rest none is = rw (none, is) refl

asked_below : (words : List Text) → walk_fault program.top (names_of program) (walk_from nothing_held) words ≡ []
    → entered_fault program (walk program.top.rules (names_of program) nothing_held words).stopped ≡ DisplayHelp ∷ [] → fault_of line.hkms words ≡ DisplayHelp ∷ []
asked_below words none is =
    first_kind (walk_fault program.top (names_of program) (walk_from nothing_held) words) (entered_fault program (walk program.top.rules (names_of program) nothing_held words).stopped) _ none is

asked_command : (command flag : Text) (more : List Text) → IsCommand command → IsHelpFlag flag → fault_of line.hkms (command ∷ flag ∷ more) ≡ DisplayHelp ∷ []
asked_command command flag more c f =
    asked_below (command ∷ flag ∷ more) (none_above command flag more c f) (ap (entered_fault program) (stops_at command flag more c f) ∙ help_below command flag more c f)

asked_for_help : (words : List Text) → AsksForHelp words → fault_of line.hkms words ≡ DisplayHelp ∷ []
asked_for_help words (flag, f, more, inl w) = asked_first words flag more f w
asked_for_help words (flag, f, more, inr (command, c, w)) = ap (fault_of line.hkms) w ∙ asked_command command flag more c f

asked_for_version : (words : List Text) → AsksForVersion words → fault_of line.hkms words ≡ DisplayVersion ∷ []
unfolding clap_on_literals
asked_for_version words (more, inl w) = rw w refl
asked_for_version words (more, inr w) = rw w refl

pub asked_is_found : (words : List Text) → AskedIsFound words
asked_is_found words = (
  λ asks. found_by_clap line.hkms order_named words DisplayHelp (subst (IsAmong DisplayHelp) (sym (asked_for_help words asks)) (inl refl)),
  λ asks. found_by_clap line.hkms order_named words DisplayVersion (subst (IsAmong DisplayVersion) (sym (asked_for_version words asks)) (inl refl)),
)
