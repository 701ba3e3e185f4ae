-- The properties of a replay.
use Rattle.std.specs.Prelude.{◌≡◌, ◌≤◌, ℕ, List, ◌++◌, length, Option, Some}
use Rattle.std.specs.Io.KnownBytes.{Consumes, IsAtEnd}
use Rattle.prop_text.specs.Properties.{HasFault, IsProps, longest_text}
use Rattle.prop_text.specs.declared.props.Props.{Props}
use Rattle.command_io.specs.declared.props.PropsFault.{PropsFault}
use Rattle.command_io.specs.declared.props.PropsFault.TheVariants.{ReadFault, TextFault}

-- A text was read from what a source had left: all of it, or a prefix that is already too long.
pub record ReadsText (left left' : Option (List ℕ)) (text : List ℕ) : Type 0 where
  pub front : (all : List ℕ) → left ≡ Some all → (rest : List ℕ) × (all ≡ text ++ rest)
  pub consumed : length text ≤ longest_text → Consumes left left' text
  pub end : length text ≤ longest_text → IsAtEnd left'

-- The properties were read to the end of their source, and are these.
pub record ReadsProperties (left left' : Option (List ℕ)) (props : Props) : Type 0 where
  pub text : List ℕ
  pub consumed : Consumes left left' text
  pub end : IsAtEnd left'
  pub is_props : IsProps text props

-- why properties could not be read: the source failed, or its whole text has the fault, if the source tells its text
abbrev pub HasPropsFault : Option (List ℕ) → PropsFault → Type 0
HasPropsFault left ReadFault = Unit {0}
HasPropsFault left (TextFault fault) = (all : List ℕ) → left ≡ Some all → HasFault all fault
