-- The orders that the words of a command line give.
use Rattle.std.specs.Prelude.{◌≡◌, ◌⊎◌, List, [], ◌∷◌, codes, Option, Some, None, if◌then◌else◌, option_map}
use Rattle.std.specs.Str.{bytes_eq}
use Rattle.clap.specs.Words.{Kinds, IsAmong, Row, Text}
use Rattle.clap.specs.declared.error.ErrorKind.TheVariants.{DisplayHelp, DisplayVersion}
use Rattle.clap_lines.specs.Orders.{HasOrder, IsPlain, IsRightUser, user_in}
use Rattle.clap_lines.specs.Orders as lines
use Rattle.clap_lines.specs.declared.told.Told.{Told}
use Rattle.clap_lines.specs.declared.told.Told.TheVariants as told
use Rattle.read_words.specs.Values.{IsRightRead, SpellsRead, path_in, read_values_in}
use Rattle.read_words.specs.declared.values.ReadValues.{ReadValues}
use Rattle.fs_command_line.specs.Line as line
use Rattle.fs_command_line.specs.declared.order.FsOrder.{FsOrder}
use Rattle.fs_command_line.specs.declared.order.FsOrder.TheVariants.{Put, Read, Help, Version}

abbrev pub put_order : Option Text → Option Text → Option FsOrder
put_order (Some user) (Some path) = Some (Put user path)
put_order (Some user) None = None
put_order None path = None

-- the order to read a range with these values
abbrev pub read_order : ReadValues → FsOrder
read_order values = Read values.user values.path values.from values.count

abbrev pub read_order_in : List Row → Option FsOrder
read_order_in rows = option_map read_order (read_values_in rows)

-- the order of a command with this name and these values
abbrev pub order_named : Text → List Row → Option FsOrder
order_named name rows =
    if bytes_eq name (codes "put") then put_order (user_in rows) (path_in rows)
    else (if bytes_eq name (codes "read") then read_order_in rows else None)

-- the faults of the words: those that clap finds, or else that of the values
abbrev pub line_fault : List Text → Kinds
line_fault words = lines.line_fault line.hkfs order_named words

-- the words have no fault, and name the command of this order
abbrev pub Names : FsOrder → List Text → Type 0
Names order words = HasOrder line.hkfs order_named order words

-- the order to show a text
abbrev pub order_told : Told → FsOrder
order_told (told.Help text) = Help text
order_told (told.Version text) = Version text

-- the order shows a text
abbrev pub IsHelp : FsOrder → Type 0
IsHelp (Help text) = Unit {0}
IsHelp _ = ⊥

abbrev pub IsVersion : FsOrder → Type 0
IsVersion (Version text) = Unit {0}
IsVersion _ = ⊥

-- the order is what the words say
abbrev pub IsOrderOf : FsOrder → List Text → Type 0
IsOrderOf order words = lines.AnswersWords line.hkfs order_named IsHelp IsVersion order words

-- the user, the path and the numbers of an order are in their bounds
abbrev pub HasRightValues : FsOrder → Type 0
HasRightValues (Put user path) = IsRightUser user
HasRightValues (Read user path from count) = IsRightRead user from count
HasRightValues _ = Unit {0}

-- the words that name a command with its values, and nothing else
abbrev pub IsSpelled : FsOrder → List Text → Type 0
IsSpelled (Put user path) words = HasRightValues (Put user path) × IsPlain user × IsPlain path × (words ≡ codes "put" ∷ user ∷ path ∷ [])
IsSpelled (Read user path from count) words = SpellsRead user path from count words
IsSpelled (Help text) words = ⊥
IsSpelled (Version text) words = ⊥

-- clap finds a request for help in the words, or one for the version
abbrev pub FindsHelp : List Text → Type 0
FindsHelp words = IsAmong DisplayHelp (line_fault words)

abbrev pub FindsVersion : List Text → Type 0
FindsVersion words = IsAmong DisplayVersion (line_fault words)

-- the word is the name of a command
abbrev pub IsCommand : Text → Type 0
IsCommand word = (word ≡ codes "put") ⊎ (word ≡ codes "read")
