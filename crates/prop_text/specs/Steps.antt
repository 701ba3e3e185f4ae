-- One more line of the properties.
use Rattle.std.specs.Prelude.{◌≡◌, ◌⊎◌, ◌||◌, ℕ, true, false, List, [], ◌∷◌, ◌++◌}
use Rattle.std.specs.Str.{bytes_eq}
use Rattle.prop_text.specs.declared.lines.PropLine.{PropLine}
use Rattle.prop_text.specs.declared.faults.PropFault.{PropFault}
use Rattle.prop_text.specs.declared.faults.PropFault.TheVariants as fault
use Rattle.prop_text.specs.declared.reading.Reading.{Reading}
use Rattle.prop_text.specs.declared.setting.Setting.{Setting}
use Rattle.prop_text.specs.Properties.{IsBadLine, IsRepeated, IsUnknownName, SaysProperty, SpellsValue, is_among, is_quiet}
use Rattle.prop_text.specs.Sizes.{with_line}

-- a property is added under a name that was not set
pub record AddsProperty (old new : Reading) (name : List ℕ) (prop : PropLine) : Type 0 where
  pub first : is_among name old.names ≡ false
  pub names : (other : List ℕ) → is_among other new.names ≡ (bytes_eq other name || is_among other old.names)
  pub lines : new.lines ≡ old.lines ++ prop ∷ []
  pub sizes : new.sizes ≡ with_line old.sizes prop

pub record AddsValue (old new : Reading) (what : Setting) (name value : List ℕ) : Type 0 where
  pub prop : PropLine
  pub value_is : SpellsValue what name value prop
  pub adds : AddsProperty old new name prop

pub record AddsLine (old new : Reading) (line : List ℕ) : Type 0 where
  pub prop : PropLine
  pub says : SaysProperty line prop
  pub adds : AddsProperty old new says.name prop

-- a quiet line changes nothing
abbrev pub ReadsLine : Reading → Reading → List ℕ → Type 0
ReadsLine old new line = ((is_quiet line ≡ true) × (new ≡ old)) ⊎ ((is_quiet line ≡ false) × AddsLine old new line)

-- the fault of the value of a known name
abbrev pub ValueHasFault : List (List ℕ) → ℕ → Setting → List ℕ → List ℕ → PropFault → Type 0
ValueHasFault earlier number what name value (fault.BadLine n) = (n ≡ number) × (is_among name earlier ≡ false) × ((prop : PropLine) → ¬ SpellsValue what name value prop)
ValueHasFault earlier number what name value (fault.Repeated n) = (n ≡ number) × (is_among name earlier ≡ true)
ValueHasFault earlier number what name value (fault.UnknownName n) = ⊥
ValueHasFault earlier number what name value fault.TooLong = ⊥
ValueHasFault earlier number what name value fault.NoMemory = Unit {0}

-- the fault of the line of this number, after lines that set these names
abbrev pub LineHasFault : List (List ℕ) → ℕ → List ℕ → PropFault → Type 0
LineHasFault earlier number line (fault.BadLine n) = (n ≡ number) × IsBadLine earlier line
LineHasFault earlier number line (fault.Repeated n) = (n ≡ number) × IsRepeated earlier line
LineHasFault earlier number line (fault.UnknownName n) = (n ≡ number) × IsUnknownName earlier line
LineHasFault earlier number line fault.TooLong = ⊥
LineHasFault earlier number line fault.NoMemory = Unit {0}
