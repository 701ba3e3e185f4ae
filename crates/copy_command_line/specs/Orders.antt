-- The orders that the words of a command line give.
use Rattle.std.specs.Prelude.{◌≡◌, ◌⊎◌, List, [], ◌∷◌, codes, Option, Some, None, if◌then◌else◌, option_map}
use Rattle.std.specs.Str.{bytes_eq}
use Rattle.clap.specs.Words.{Kinds, IsAmong, Row, Text, first_of}
use Rattle.clap.specs.declared.error.ErrorKind.TheVariants.{DisplayHelp, DisplayVersion}
use Rattle.clap_lines.specs.Orders.{HasOrder, IsPlain}
use Rattle.clap_lines.specs.Orders as lines
use Rattle.clap_lines.specs.declared.told.Told.{Told}
use Rattle.clap_lines.specs.declared.told.Told.TheVariants as told
use Rattle.read_words.specs.Values.{IsRightRead, SpellsRead, read_values_in}
use Rattle.read_words.specs.declared.values.ReadValues.{ReadValues}
use Rattle.copy_command_line.specs.Line as line
use Rattle.copy_command_line.specs.declared.order.CopyOrder.{CopyOrder}
use Rattle.copy_command_line.specs.declared.order.CopyOrder.TheVariants.{Copy, Read, Help, Version}

-- the values of the words of a command
abbrev pub source_in : List Row → Option Text
source_in rows = first_of (codes "source") rows

abbrev pub target_in : List Row → Option Text
target_in rows = first_of (codes "target") rows

abbrev pub copy_order : Option Text → Option Text → Option CopyOrder
copy_order (Some source) (Some target) = Some (Copy source target)
copy_order (Some source) None = None
copy_order None target = None

-- the order to read a range with these values
abbrev pub read_order : ReadValues → CopyOrder
read_order values = Read values.user values.path values.from values.count

abbrev pub read_order_in : List Row → Option CopyOrder
read_order_in rows = option_map read_order (read_values_in rows)

-- the order of a command with this name and these values
abbrev pub order_named : Text → List Row → Option CopyOrder
order_named name rows =
    if bytes_eq name (codes "copy") then copy_order (source_in rows) (target_in rows)
    else (if bytes_eq name (codes "read") then read_order_in rows else None)

-- the faults of the words: those that clap finds, or else that of the values
abbrev pub line_fault : List Text → Kinds
line_fault words = lines.line_fault line.hkcopy order_named words

-- the words have no fault, and name the command of this order
abbrev pub Names : CopyOrder → List Text → Type 0
Names order words = HasOrder line.hkcopy order_named order words

-- the order to show a text
abbrev pub order_told : Told → CopyOrder
order_told (told.Help text) = Help text
order_told (told.Version text) = Version text

-- the order shows a text
abbrev pub IsHelp : CopyOrder → Type 0
IsHelp (Help text) = Unit {0}
IsHelp _ = ⊥

abbrev pub IsVersion : CopyOrder → Type 0
IsVersion (Version text) = Unit {0}
IsVersion _ = ⊥

-- the order is what the words say
abbrev pub IsOrderOf : CopyOrder → List Text → Type 0
IsOrderOf order words = lines.AnswersWords line.hkcopy order_named IsHelp IsVersion order words

-- the user and the numbers of an order are in their bounds
abbrev pub HasRightValues : CopyOrder → Type 0
HasRightValues (Read user path from count) = IsRightRead user from count
HasRightValues _ = Unit {0}

-- the words that name a command with its values, and nothing else
abbrev pub IsSpelled : CopyOrder → List Text → Type 0
IsSpelled (Copy source target) words = IsPlain source × IsPlain target × (words ≡ codes "copy" ∷ source ∷ target ∷ [])
IsSpelled (Read user path from count) words = SpellsRead user path from count words
IsSpelled (Help text) words = ⊥
IsSpelled (Version text) words = ⊥

-- clap finds a request for help in the words, or one for the version
abbrev pub FindsHelp : List Text → Type 0
FindsHelp words = IsAmong DisplayHelp (line_fault words)

abbrev pub FindsVersion : List Text → Type 0
FindsVersion words = IsAmong DisplayVersion (line_fault words)

-- the word is the name of a command
abbrev pub IsCommand : Text → Type 0
IsCommand word = (word ≡ codes "copy") ⊎ (word ≡ codes "read")
