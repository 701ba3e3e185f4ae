-- No list of kinds that clap finds has help or version beside another kind.
use Rattle.std.proofs.Common.{refl, codes, List, [], ◌∷◌, ◌≡◌, ◌⊎◌, inl, inr, ℕ, zero, suc, Option, Some, None, Bool, true, false, ap, ◌∙◌, sym, ◌&&◌, length, ◌==◌, drop}
use Rattle.std.specs.Prelude.{if◌then◌else◌, not, find, encode_utf8, slice_get, is_some, nat_lt}
use Rattle.std.specs.Option.{option_map_or}
use Rattle.std.specs.Str.{bytes_eq, chars}
use Rattle.clap.specs.Lexer.{long_of, short_of}
use Rattle.clap.specs.Facts.{parser_of_value, unwrap_or_range}
use Rattle.clap.specs.ValueTests.{accepts}
use Rattle.clap.specs.Values.{refused_kind}
use Rattle.clap.specs.Walk.{Held, Names, Row, Rule, Step, Text, Waiting, Walk, action_of, answers_to, arg_by_id, arg_by_index, arg_by_long, arg_by_short, attached_value, has_row, is_pending, most_values, nothing_held, reacted, settled, subcommand_met, takes_several, takes_values, value, values_or_missing, walk, walk_from, walked, with_default, word_met, idle, option, positional, next, trailing, subcommand}
use Rattle.clap.specs.Simple.{App, Shape, argument_words, built, entered, label_of, names_of}
use Rattle.clap.specs.Kinds.{Kinds, IsAmong, check_kinds, or_else, range_kinds, request_kinds, value_kinds, values_kinds}
use Rattle.clap.specs.Faults.{values_fault, count_fault, repeat_fault, set_fault, action_fault, use_fault, settle_fault, react_fault, option_fault, long_fault, short_fault, bundle_step_fault, flags_fault, bundle_fault, flag_word_fault, other_fault, word_fault, positional_fault, stray_fault, step_fault, turn_fault, walk_fault, given_default_fault, default_fault, defaults_fault, level_fault, entered_fault, fault_of}
use Rattle.clap.specs.declared.builder.value_parser.ValueParser.{ValueParser}
use Rattle.clap.specs.declared.builder.ArgAction.{ArgAction}
use Rattle.clap.specs.declared.builder.ArgAction.TheVariants.{Set, Append, SetTrue, SetFalse, Count, Help, HelpShort, HelpLong, Version}
use Rattle.clap.specs.declared.error.ErrorKind.{ErrorKind}
use Rattle.clap.specs.declared.error.ErrorKind.TheVariants.{DisplayHelp, DisplayVersion}
use Rattle.clap_lines.specs.Shown.{IsOneKind, NotShown}

pub single-or : (a b : Kinds) → IsOneKind a → IsOneKind b → IsOneKind (or_else a b)
single-or [] b p q = q
single-or (k ∷ ks) b p q = p

pub single-if : (t : Bool) (a b : Kinds) → IsOneKind a → IsOneKind b → IsOneKind (if t then a else b)
single-if true a b p q = p
single-if false a b p q = q

single-option : {X : Type 0} (f : X → Kinds) (o : Option X) (d : Kinds) → ((x : X) → IsOneKind (f x)) → IsOneKind d → IsOneKind (option_map_or f o d)
single-option f None d p q = q
single-option f (Some x) d p q = p x

value-single : (i : Bool) (p : ValueParser) (t : Text) → IsOneKind (value_kinds i p t)
value-single i p t = single-if (accepts i p t) [] (refused_kind p ∷ []) tt tt

values-single : (i : Bool) (p : ValueParser) (ts : List Text) → IsOneKind (values_kinds i p ts)
values-single i p [] = tt
values-single i p (t ∷ ts) = single-or (value_kinds i p t) (values_kinds i p ts) (value-single i p t) (values-single i p ts)

count-single : (a : Rule) (vs : List Text) (rows : List Row) → IsOneKind (count_fault a vs rows)
count-single a [] rows = value-single a.ignore_case (parser_of_value a.parser) _
count-single a (v ∷ vs) rows = values-single a.ignore_case (parser_of_value a.parser) (v ∷ vs)

set-single : (again : Bool) (a : Rule) (vs : List Text) (rows : List Row) → IsOneKind (set_fault again a vs rows)
set-single again a vs rows =
    single-or (repeat_fault again a.id rows) (values_fault a vs) (single-if (has_row a.id rows && not again) _ [] tt tt) (values-single a.ignore_case (parser_of_value a.parser) vs)

request-single : (x : ArgAction) → IsOneKind (request_kinds x)
request-single Help = tt
request-single HelpShort = tt
request-single HelpLong = tt
request-single Version = tt
request-single _ = tt

action-single : (x : ArgAction) (again : Bool) (a : Rule) (vs : List Text) (rows : List Row) → IsOneKind (action_fault x again a vs rows)
action-single Set again a vs rows = set-single again a vs rows
action-single SetTrue again a vs rows = set-single again a vs rows
action-single SetFalse again a vs rows = set-single again a vs rows
action-single Append again a vs rows = values-single a.ignore_case (parser_of_value a.parser) vs
action-single Count again a vs rows = count-single a vs rows
action-single Help again a vs rows = tt
action-single HelpShort again a vs rows = tt
action-single HelpLong again a vs rows = tt
action-single Version again a vs rows = tt

range-single : (l m n : ℕ) → IsOneKind (range_kinds l m n)
range-single l m n =
    single-if (nat_lt 0 l && n == 0) _ _ tt
    (single-if (l == m) _ _ (single-if (l == n) [] _ tt tt)
    (single-if (nat_lt n l) _ _ tt (single-if (nat_lt m n) _ [] tt tt)))

use-single : (again : Bool) (a : Rule) (vs : List Text) (rows : List Row) → IsOneKind (use_fault again a vs rows)
use-single again a vs rows =
    single-or (range_kinds (unwrap_or_range a.range).start_inclusive (most_values a) (length vs)) (action_fault (action_of a) again a (values_or_missing a vs) rows)
    (range-single (unwrap_or_range a.range).start_inclusive (most_values a) (length vs)) (action-single (action_of a) again a (values_or_missing a vs) rows)

settle-single : (c : List Rule) (again : Bool) (h : Held) → IsOneKind (settle_fault c again h)
settle-single c again h =
    single-option (λ p. option_map_or (λ a. use_fault again a p.1 h.rows) (arg_by_id c p.0) []) h.pending []
    (λ p. single-option (λ a. use_fault again a p.1 h.rows) (arg_by_id c p.0) [] (λ a. use-single again a p.1 h.rows) tt) tt

react-single : (c : List Rule) (again : Bool) (a : Rule) (vs : List Text) (h : Held) → IsOneKind (react_fault c again a vs h)
react-single c again a vs h =
    single-or (settle_fault c again h) (use_fault again a vs (settled c h).rows) (settle-single c again h) (use-single again a vs (settled c h).rows)

option-single : (c : List Rule) (again : Bool) (a : Rule) (v : Option Text) (h : Held) → IsOneKind (option_fault c again a v h)
option-single c again a (Some v) h = react-single c again a (v ∷ []) h
option-single c again a None h = settle-single c again h

long-single : (c : List Rule) (again : Bool) (a : Option Rule) (v : Option Text) (h : Held) → IsOneKind (long_fault c again a v h)
long-single c again None v h = tt
long-single c again (Some a) v h =
    single-if (takes_values a) (option_fault c again a v h) _ (option-single c again a v h)
    (single-if (is_some v) _ (react_fault c again a [] h) tt (react-single c again a [] h))

short-single : (c : List Rule) (again : Bool) (a : Option Rule) (rest : Text) (h : Held) (more : Held → Kinds) → ((k : Held) → IsOneKind (more k)) → IsOneKind (short_fault c again a rest h more)
short-single c again None rest h more p = tt
short-single c again (Some a) rest h more p =
    single-if (takes_values a) (option_fault c again a (attached_value rest) h) (or_else (react_fault c again a [] h) (more (reacted c a [] h)))
    (option-single c again a (attached_value rest) h)
    (single-or (react_fault c again a [] h) (more (reacted c a [] h)) (react-single c again a [] h) (p (reacted c a [] h)))

bundle_step-single : (c : List Rule) (again : Bool) (x : Option ℕ) (flags : Text) (skip : ℕ) (h : Held) (more : Text → ℕ → Held → Kinds)
    → ((t : Text) (n : ℕ) (k : Held) → IsOneKind (more t n k)) → IsOneKind (bundle_step_fault c again x flags skip h more)
bundle_step-single c again None flags skip h more p = tt
bundle_step-single c again (Some x) flags zero h more p =
    short-single c again (arg_by_short c x) (drop (length (encode_utf8 x)) flags) h (more (drop (length (encode_utf8 x)) flags) 0) (p (drop (length (encode_utf8 x)) flags) 0)
bundle_step-single c again (Some x) flags (suc skip) h more p = p (drop (length (encode_utf8 x)) flags) skip h

flags-single : (c : List Rule) (again : Bool) (k : ℕ) (flags : Text) (skip : ℕ) (h : Held) → IsOneKind (flags_fault c again k flags skip h)
unfolding flags_fault
flags-single c again zero flags skip h = tt
flags-single c again (suc k) flags skip h =
    bundle_step-single c again (slice_get (chars flags) 0) flags skip h (flags_fault c again k) (λ t n g. flags-single c again k t n g)

flag_word-single : (c : List Rule) (again : Bool) (o : Option (Text × Option Text)) (word : Text) (h : Held) → IsOneKind (flag_word_fault c again o word h)
flag_word-single c again (Some p) word h = long-single c again (arg_by_long c p.0) p.1 h
flag_word-single c again None word h =
    single-option (λ flags. bundle_fault c again flags h) (short_of word) []
    (λ flags. flags-single c again (length flags) flags h.skip (record h { skip = 0 })) tt

-- the command has no subcommand `help`, or no subcommands at all
abbrev IsQuiet : Shape → Names → Type 0
IsQuiet s names = (s.disable_help_subcommand ≡ true) ⊎ (names ≡ [])

none_met : (waiting : Waiting) (word : Text) → subcommand_met [] waiting word ≡ None
none_met idle word = refl
none_met (option id) word = refl
none_met positional word = refl

quiet : (b d : Bool) (k : Kinds) → d ≡ true → IsOneKind (if b && not d then k else [])
quiet true d k e = rw e tt
quiet false d k e = tt

other-single : (s : Shape) (o : Option Text) (word : Text) (h : Held) → (s.disable_help_subcommand ≡ true) ⊎ (o ≡ None) → IsOneKind (other_fault s o word h)
other-single s (Some name) word h (inl e) = quiet (bytes_eq name (codes "help")) s.disable_help_subcommand _ e
other-single s (Some name) word h (inr e) = cc
other-single s None word h q =
    single-if (bytes_eq word (45 ∷ 45 ∷ [])) [] _ tt (flag_word-single s.rules s.args_override_self (long_of word) word h)

word-single : (s : Shape) (names : Names) (trail : Bool) (waiting : Waiting) (word : Text) (h : Held) → IsQuiet s names → IsOneKind (word_fault s names trail waiting word h)
word-single s names trail waiting word h (inl e) =
    single-if trail [] (other_fault s (subcommand_met names waiting word) word h) tt (other-single s (subcommand_met names waiting word) word h (inl e))
word-single s names trail waiting word h (inr e) =
    single-if trail [] (other_fault s (subcommand_met names waiting word) word h) tt
    (other-single s (subcommand_met names waiting word) word h (inr (ap (λ n. subcommand_met n waiting word) e ∙ none_met waiting word)))

stray-single : (s : Shape) → IsOneKind (stray_fault s)
stray-single s = single-if s.is_leaf _ _ tt ((λ e. cc), (λ e. cc), ((λ e. cc), (λ e. cc), tt))

step-single : (s : Shape) (position : ℕ) (h : Held) (x : Step) → IsOneKind (step_fault s position h x)
step-single s position h value =
    single-option (λ a. positional_fault s.rules s.args_override_self a h) (arg_by_index s.rules position) (stray_fault s)
    (λ a. single-if (is_pending a h.pending && takes_several a) [] _ tt (settle-single s.rules s.args_override_self h)) (stray-single s)
step-single s position h (next w) = tt
step-single s position h (trailing p) = tt
step-single s position h (subcommand n) = tt

turn-single : (s : Shape) (names : Names) (w : Walk) (word : Text) → IsQuiet s names → IsOneKind (turn_fault s names w word)
turn-single s names w word q =
    single-if (is_some w.stopped) [] _ tt
    (single-or (word_fault s names w.is_trailing w.waiting word w.held) _ (word-single s names w.is_trailing w.waiting word w.held q)
    (step-single s w.position (word_met s.rules names w.is_trailing w.waiting w.position word w.held).0 (word_met s.rules names w.is_trailing w.waiting w.position word w.held).1))

walk-single : (s : Shape) (names : Names) (w : Walk) (words : List Text) → IsQuiet s names → IsOneKind (walk_fault s names w words)
unfolding walk_fault
walk-single s names w [] q = tt
walk-single s names w (word ∷ rest) q =
    single-or (turn_fault s names w word) (walk_fault s names (walked s.rules names w word) rest) (turn-single s names w word q) (walk-single s names (walked s.rules names w word) rest q)

default-single : (rows : List Row) (a : Rule) → IsOneKind (default_fault rows a)
default-single rows a =
    single-if _ [] (given_default_fault a a.defaults) tt
    (single-or (request_kinds (action_of a)) (values_fault a a.defaults) (request-single (action_of a)) (values-single a.ignore_case (parser_of_value a.parser) a.defaults))

defaults-single : (rows : List Row) (rules : List Rule) → IsOneKind (defaults_fault rows rules)
unfolding defaults_fault
defaults-single rows [] = tt
defaults-single rows (a ∷ rest) = single-or (default_fault rows a) (defaults_fault (with_default rows a) rest) (default-single rows a) (defaults-single (with_default rows a) rest)

check-single : (a b c : Bool) → IsOneKind (check_kinds a b c)
check-single a b c = single-if a _ _ tt (single-if b _ _ tt (single-if c _ [] tt tt))

level-single : (s : Shape) (names : Names) (h : Held) (words : List Text) (has : Bool) (below : Kinds) → IsQuiet s names → IsOneKind below → IsOneKind (level_fault s names h words has below)
level-single s names h words has below q p =
    let end = (walk s.rules names h words).held in
    single-or (walk_fault s names (walk_from h) words) _ (walk-single s names (walk_from h) words q)
    (single-or below _ p
    (single-or (settle_fault s.rules s.args_override_self end) _ (settle-single s.rules s.args_override_self end)
    (single-or (defaults_fault (settled s.rules end).rows s.rules) _ (defaults-single (settled s.rules end).rows s.rules) (check-single _ _ _))))

entered-single : (a : App) (stop : Option (Text × List Text)) → IsOneKind (entered_fault a stop)
entered-single a stop =
    single-option (λ p. option_map_or (λ s. level_fault s [] nothing_held p.1 false []) (find (λ s. answers_to p.0 (label_of s)) a.subs) []) stop []
    (λ p. single-option (λ s. level_fault s [] nothing_held p.1 false []) (find (λ s. answers_to p.0 (label_of s)) a.subs) []
    (λ s. level-single s [] nothing_held p.1 false [] (inr refl) tt) tt) tt

pub fault-single : (a : App) (words : List Text) → (built a).top.disable_help_subcommand ≡ true → IsOneKind (fault_of a words)
fault-single a words e =
    let b = built a in
    let stop = (walk b.top.rules (names_of b) nothing_held (argument_words a words)).stopped in
    level-single b.top (names_of b) nothing_held (argument_words a words) (is_some (entered b stop)) (entered_fault b stop) (inl e) (entered-single b stop)

-- a kind that is shown is the only one of the list
pub alone : (ks : Kinds) (k j : ErrorKind) → IsOneKind ks → IsAmong k ks → IsAmong j ks → (j ≡ DisplayHelp) ⊎ (j ≡ DisplayVersion) → k ≡ j
alone [] k j p a b s = absurd a
alone (x ∷ []) k j p (inl a) (inl b) s = a ∙ sym b
alone (x ∷ []) k j p (inr a) b s = absurd a
alone (x ∷ []) k j p (inl a) (inr b) s = absurd b
alone (x ∷ y ∷ ks) k j p a b s = absurd (not_shown (x ∷ y ∷ ks) j p b s)
  where
    not_shown : (ks : Kinds) (j : ErrorKind) → NotShown ks → IsAmong j ks → (j ≡ DisplayHelp) ⊎ (j ≡ DisplayVersion) → ⊥
    not_shown [] j p b s = b
    not_shown (x ∷ ks) j p (inl e) (inl s) = p.0 (sym e ∙ s)
    not_shown (x ∷ ks) j p (inl e) (inr s) = p.1 (sym e ∙ s)
    not_shown (x ∷ ks) j p (inr b) s = not_shown ks j p.2 b s

-- a kind of the first list is among those of the two
pub among-first : (kinds others : Kinds) (k : ErrorKind) → IsAmong k kinds → IsAmong k (or_else kinds others)
among-first [] others k a = absurd a
among-first (j ∷ kinds) others k a = a
