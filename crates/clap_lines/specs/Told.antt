-- A text that is shown in place of an order.
use Rattle.std.specs.Prelude.{◌≡◌, true}
use Rattle.clap.specs.Words.{Rule, Text, new_rule}
use Rattle.clap.specs.declared.error.ErrorKind.{ErrorKind}
use Rattle.clap.specs.declared.error.ErrorKind.TheVariants.{DisplayHelp, DisplayVersion}
use Rattle.clap_lines.specs.declared.told.Told.{Told}
use Rattle.clap_lines.specs.declared.told.Told.TheVariants.{Help, Version}

-- an error of this kind shows the text
abbrev pub IsTold : Told → ErrorKind → Type 0
IsTold (Help text) kind = kind ≡ DisplayHelp
IsTold (Version text) kind = kind ≡ DisplayVersion

-- a word that a command needs, under this id; clap takes any word for it
abbrev pub word : Text → Rule
word id = record (new_rule id) { value_names = 1; required = true }
