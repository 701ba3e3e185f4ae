-- Reading the properties.
use Rattle.std.proofs.Common.{◌≡◌, ℕ, List, ◌++◌, length, ap, sym, ◌∙◌, subst, Option, None, Some, Result, Err, arith, append-nil, length-append}
use Rattle.std.specs.Io.KnownBytes.{Consumes, IsAtEnd}
use Rattle.prop_text.specs.Properties.{HasFault, IsBadLine, IsFirst, IsRepeated, IsUnknownName}
use Rattle.prop_text.specs.declared.faults.PropFault.{PropFault}
use Rattle.prop_text.specs.declared.faults.PropFault.TheVariants as fault
use Rattle.prop_text.specs.declared.props.Props.{Props}
use Rattle.command_io.specs.Properties.{HasPropsFault, ReadsText}
use Rattle.command_io.specs.declared.props.PropsFault.{PropsFault}
use Rattle.command_io.specs.declared.props.PropsFault.TheVariants.{TextFault}

-- a text that is short enough is all that was left
whole : (left left' : Option (List ℕ)) (text : List ℕ) → Consumes left left' text → IsAtEnd left' → (all : List ℕ) → left ≡ Some all → text ≡ all
whole None left' text consumed end all is = absurd cc
whole (Some xs) None text consumed end all is = absurd consumed
whole (Some xs) (Some ys) text consumed end all is = let same : xs ≡ all = cc in sym (append-nil text) ∙ ap (λ (l : List ℕ). text ++ l) (sym end) ∙ sym consumed ∙ same

first_of_all : (left left' : Option (List ℕ)) (text : List ℕ) (number : ℕ) (IsFault : List (List ℕ) → List ℕ → Type 0) → ReadsText left left' text → IsFirst text number IsFault
    → (all : List ℕ) → left ≡ Some all → IsFirst all number IsFault
first_of_all left left' text number IsFault r first all is = subst (λ (t : List ℕ). IsFirst t number IsFault) (whole left left' text (r.consumed first.short) (r.end first.short) all is) first

has_fault : (left left' : Option (List ℕ)) (text : List ℕ) (why : PropFault) → ReadsText left left' text → HasFault text why → HasPropsFault left (TextFault why)
has_fault left left' text (fault.BadLine number) r has = first_of_all left left' text number IsBadLine r has
has_fault left left' text (fault.Repeated number) r has = first_of_all left left' text number IsRepeated r has
has_fault left left' text (fault.UnknownName number) r has = first_of_all left left' text number IsUnknownName r has
has_fault left left' text fault.TooLong r has = λ all is. let front = r.front all is in omega (arith, has, ap length front.1, length-append text front.0)
has_fault left left' text fault.NoMemory r has = λ all is. tt

-- an error with the fault of the text
abbrev pub is_bad : PropFault → Result Props PropsFault
is_bad bad = Err (TextFault bad)

fault_in : (bad : PropFault) (why : PropsFault) → is_bad bad ≡ Err why → TextFault bad ≡ why
fault_in bad why is = cc

pub text_fault_is : (left left' : Option (List ℕ)) (text : List ℕ) (bad : PropFault) (why : PropsFault) → ReadsText left left' text → HasFault text bad → is_bad bad ≡ Err why → HasPropsFault left why
text_fault_is left left' text bad why r has is = subst (HasPropsFault left) (fault_in bad why is) (has_fault left left' text bad r has)
