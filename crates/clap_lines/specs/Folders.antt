-- The option `--dir FOLDER`, by which the words of a program give the folder of its files.
use Rattle.std.specs.Prelude.{◌≡◌, ◌⊎◌, List, [], ◌∷◌, ◌++◌, Option, Some, None, codes}
use Rattle.clap.specs.Words.{App, Kinds, Row, Rule, Text, fault_of, first_of, matches_of, new_rule, subcommand_of}
use Rattle.clap_lines.specs.Orders.{IsPlain, line_fault, order_at}

-- an option of the program itself, which takes one word
abbrev pub folder_option : Rule
folder_option = record (new_rule (codes "dir")) { long = Some (codes "dir"); value_names = 1 }

-- the folder, if there is no fault
abbrev pub unless_faults : Kinds → Option Text → Option Text
unless_faults [] folder = folder
unless_faults (kind ∷ kinds) folder = None

-- the folder that words give in which clap finds no fault
abbrev pub folder_of : App → List Text → Option Text
folder_of app words = unless_faults (fault_of app words) (first_of (codes "dir") (matches_of app words))

-- the words of the option: its name and a folder that doesn't begin with `-`, or one word of both with `=` between them
abbrev pub SpellsFolder : Text → List Text → Type 0
SpellsFolder folder words = (IsPlain folder × (words ≡ codes "--dir" ∷ folder ∷ [])) ⊎ (words ≡ (codes "--dir" ++ 61 ∷ folder) ∷ [])

-- The first words say what the others say, and also give this folder, of which the others say nothing.
pub record SaysInFolder {O : Type 0} (app : App) (named : Text → List Row → Option O) (folder : Text) (words alone : List Text) : Type 0 where
  pub fault : line_fault app named words ≡ line_fault app named alone
  pub order : order_at named (subcommand_of app words) ≡ order_at named (subcommand_of app alone)
  pub given : fault_of app alone ≡ [] → folder_of app words ≡ Some folder
  pub none_alone : folder_of app alone ≡ None
