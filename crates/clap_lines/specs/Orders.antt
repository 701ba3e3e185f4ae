-- What the words of a program with commands ask for. `named` gives the order of a command with this name and these values, if they are
-- right.
use Rattle.std.specs.Prelude.{◌≡◌, ◌≢◌, ◌≤◌, ◌^◌, ◌⊎◌, ◌&&◌, ℕ, List, [], ◌∷◌, codes, length, nat_le, nat_lt, Option, Some, None, if◌then◌else◌, option_and_then, Result, MatchResult}
use Rattle.std.specs.Fmt.{decimal}
use Rattle.std.specs.Str.{bytes_eq}
use Rattle.std.specs.Str.Parse.{digits_value}
use Rattle.clap.specs.Kinds.{or_else}
use Rattle.clap.specs.Words.{App, Kinds, IsAmong, Row, Text, fault_of, first_of, subcommand_of}
use Rattle.clap.specs.declared.error.ErrorKind.{ErrorKind}
use Rattle.clap.specs.declared.error.ErrorKind.TheVariants.{DisplayHelp, DisplayVersion, ValueValidation}
use Rattle.clap_lines.specs.declared.told.OrderFault.{OrderFault}
use Rattle.clap_lines.specs.declared.told.OrderFault.TheVariants.{NoMemory}

-- ---- values

-- the number below 2^63 that a text writes in decimal, without a sign or a leading zero
abbrev pub number_at : Text → Option ℕ
number_at text =
    let number = digits_value 10 text in
    if bytes_eq text (decimal number) && nat_lt number (2 ^ 63) then Some number else None

-- the number that the word with this name gives
abbrev pub number_in : Text → List Row → Option ℕ
number_in name rows = option_and_then number_at (first_of name rows)

-- a user has from 1 to 255 bytes
abbrev pub IsRightUser : Text → Type 0
IsRightUser user = (1 ≤ length user) × (length user ≤ 255)

abbrev pub user_at : Text → Option Text
user_at text = if nat_le 1 (length text) && nat_le (length text) 255 then Some text else None

-- the user of a command
abbrev pub user_in : List Row → Option Text
user_in rows = option_and_then user_at (first_of (codes "user") rows)

-- a word that doesn't begin with `-`
abbrev pub IsPlain : Text → Type 0
IsPlain [] = Unit {0}
IsPlain (b ∷ bytes) = b ≢ 45

-- ---- orders

-- the order of the command that a parse entered
abbrev pub order_at : {O : Type 0} → (Text → List Row → Option O) → Option (Text × List Row) → Option O
order_at named entered = option_and_then (λ command. named command.0 command.1) entered

-- the fault of values that give no order
abbrev pub order_fault : {O : Type 0} → Option O → Kinds
order_fault (Some order) = []
order_fault None = ValueValidation ∷ []

-- the fault of the values of the command that a parse entered
abbrev pub values_refused : {O : Type 0} → (Text → List Row → Option O) → Option (Text × List Row) → Kinds
values_refused named None = []
values_refused named (Some command) = order_fault (named command.0 command.1)

-- the faults of the words: those that clap finds, or else that of the values
abbrev pub line_fault : {O : Type 0} → App → (Text → List Row → Option O) → List Text → Kinds
line_fault app named words = or_else (fault_of app words) (values_refused named (subcommand_of app words))

-- The words have no fault, and name the command of this order.
pub record HasOrder {O : Type 0} (app : App) (named : Text → List Row → Option O) (order : O) (words : List Text) : Type 0 where
  pub no_fault : line_fault app named words ≡ []
  pub command : order_at named (subcommand_of app words) ≡ Some order

-- The order is what the words say: they have no fault and enter the command of the order, or they ask for help or for the version.
-- `IsHelp` and `IsVersion` say that an order shows such a text.
abbrev pub AnswersWords : {O : Type 0} → App → (Text → List Row → Option O) → (O → Type 0) → (O → Type 0) → O → List Text → Type 0
AnswersWords app named IsHelp IsVersion order words =
    ((line_fault app named words ≡ []) × (order_at named (subcommand_of app words) ≡ Some order))
    ⊎ ((IsHelp order × IsAmong DisplayHelp (line_fault app named words))
    ⊎ (IsVersion order × IsAmong DisplayVersion (line_fault app named words)))

-- the order shows the text of an error of this kind
abbrev pub IsShown : {O : Type 0} → (O → Type 0) → (O → Type 0) → O → ErrorKind → Type 0
IsShown IsHelp IsVersion order kind = (IsHelp order × (kind ≡ DisplayHelp)) ⊎ (IsVersion order × (kind ≡ DisplayVersion))

-- one of the kinds is neither help nor version
abbrev pub HasMistake : Kinds → Type 0
HasMistake kinds = (k : ErrorKind) × IsAmong k kinds × (k ≢ DisplayHelp) × (k ≢ DisplayVersion)

-- there are faults, and none of them is that help or the version was asked for
abbrev pub IsMistake : Kinds → Type 0
IsMistake kinds = (kinds ≢ []) × ((k : ErrorKind) → IsAmong k kinds → (k ≢ DisplayHelp) × (k ≢ DisplayVersion))

-- the answer shows a text of this kind, unless memory ran out
abbrev pub ShownAs : {O : Type 0} → (O → Type 0) → Result O OrderFault → Type 0
ShownAs IsText answer = MatchResult answer IsText (λ fault. fault ≡ NoMemory)
