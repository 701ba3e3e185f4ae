-- What a text reads as.
use Rattle.std.specs.Prelude.{◌≡◌, ◌⊎◌, ℕ, List}
use Rattle.prop_text.specs.Properties.{HasFault, IsProps}
use Rattle.prop_text.specs.declared.faults.PropFault.{PropFault}
use Rattle.prop_text.specs.declared.faults.PropFault.TheVariants as fault
use Rattle.prop_text.specs.declared.props.Props.{Props}

-- two faults are one, apart from want of memory, which any text may have
abbrev pub IsSameFault : PropFault → PropFault → Type 0
IsSameFault some other = (some ≡ other) ⊎ ((some ≡ fault.NoMemory) ⊎ (other ≡ fault.NoMemory))

-- a text has one list of properties at most
abbrev pub HasOneList : List ℕ → Type 0
HasOneList text = (some other : Props) → IsProps text some → IsProps text other → some ≡ other

-- a text has one fault at most
abbrev pub HasOneFault : List ℕ → Type 0
HasOneFault text = (some other : PropFault) → HasFault text some → HasFault text other → IsSameFault some other

-- a text with properties has no fault
abbrev pub HasNotBoth : List ℕ → Type 0
HasNotBoth text = (props : Props) (why : PropFault) → IsProps text props → HasFault text why → why ≡ fault.NoMemory
