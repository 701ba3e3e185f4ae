-- How a command ends: its exit status, and the last line that it writes.
use Rattle.std.specs.Prelude.{◌≡◌, ◌⊎◌, ℕ, zero, suc, ◌+◌, List, [], ◌++◌, codes, Option}
use Rattle.std.specs.Fmt.{decimal}
use Rattle.std.specs.Io.KnownBytes.{Appends}
use Rattle.hk_base.specs.Writing.{WroteFront}
use Rattle.frame_log.specs.declared.fault.StartFault.{StartFault}
use Rattle.frame_log.specs.declared.fault.StartFault.TheVariants as start
use Rattle.prop_text.specs.declared.faults.PropFault.{PropFault}
use Rattle.prop_text.specs.declared.faults.PropFault.TheVariants as prop_fault
use Rattle.command_io.specs.declared.ends.ReplayEnd.{ReplayEnd}
use Rattle.command_io.specs.declared.ends.ReplayEnd.TheVariants.{Done, AclRefused, AclRepeated, AclUnknown, AclTooLong, BadLine, DamagedKeys, DamagedNames, StoreFault, NoMemory, ReadFault, WriteFault, Spent}
use Rattle.command_io.specs.declared.props.PropsFault.{PropsFault}
use Rattle.command_io.specs.declared.props.PropsFault.TheVariants as props_fault

-- how a replay ends if the text has a fault
abbrev pub ended_by_text : PropFault → ReplayEnd
ended_by_text (prop_fault.BadLine number) = AclRefused number
ended_by_text (prop_fault.Repeated number) = AclRepeated number
ended_by_text (prop_fault.UnknownName number) = AclUnknown number
ended_by_text prop_fault.TooLong = AclTooLong
ended_by_text prop_fault.NoMemory = NoMemory

-- how a replay ends if the properties could not be read
abbrev pub ended_by_props : PropsFault → ReplayEnd
ended_by_props props_fault.ReadFault = ReadFault
ended_by_props (props_fault.TextFault fault) = ended_by_text fault

-- the end that goes with damage in the log of a file
abbrev pub damaged_in : ℕ → ℕ → ReplayEnd
damaged_in zero at = DamagedKeys at
damaged_in (suc n) at = DamagedNames at

-- how a replay ends if the log of a file could not be opened
abbrev pub ended_by : ℕ → StartFault → ReplayEnd
ended_by file (start.Damaged at) = damaged_in file at
ended_by file start.StoreFault = StoreFault
ended_by file start.NoMemory = NoMemory
ended_by file start.Spent = Spent

abbrev pub status_of : ReplayEnd → ℕ
status_of Done = 0
status_of (AclRefused number) = 3
status_of (AclRepeated number) = 3
status_of (AclUnknown number) = 3
status_of AclTooLong = 3
status_of BadLine = 3
status_of (DamagedKeys at) = 4
status_of (DamagedNames at) = 4
status_of StoreFault = 5
status_of NoMemory = 6
status_of ReadFault = 7
status_of WriteFault = 8
status_of Spent = 10

-- the last line of the output has a number
abbrev pub HasNumber : ReplayEnd → Type 0
HasNumber (AclRefused number) = Unit {0}
HasNumber (AclRepeated number) = Unit {0}
HasNumber (AclUnknown number) = Unit {0}
HasNumber BadLine = Unit {0}
HasNumber (DamagedKeys at) = Unit {0}
HasNumber (DamagedNames at) = Unit {0}
HasNumber _ = ⊥

-- the last line of the output, after a number of input lines
abbrev pub last_line : ReplayEnd → ℕ → List ℕ
last_line Done lines = []
last_line (AclRefused number) lines = codes "acl line " ++ decimal number ++ codes " refused\n"
last_line (AclRepeated number) lines = codes "acl line " ++ decimal number ++ codes " repeated\n"
last_line (AclUnknown number) lines = codes "acl line " ++ decimal number ++ codes " unknown\n"
last_line AclTooLong lines = codes "acl too long\n"
last_line BadLine lines = codes "line " ++ decimal (lines + 1) ++ codes " refused\n"
last_line (DamagedKeys at) lines = codes "damaged keys " ++ decimal at ++ codes "\n"
last_line (DamagedNames at) lines = codes "damaged names " ++ decimal at ++ codes "\n"
last_line StoreFault lines = codes "store fault\n"
last_line NoMemory lines = codes "no memory\n"
last_line ReadFault lines = codes "read fault\n"
last_line WriteFault lines = []
last_line Spent lines = codes "openings spent\n"

-- A text was written, and the status is this one; or a prefix of it, and the output failed.
abbrev pub ShowsWith : List ℕ → ℕ → Option (List ℕ) → Option (List ℕ) → ℕ → Type 0
ShowsWith text own written now status = ((status ≡ own) × Appends written now text) ⊎ ((status ≡ 8) × WroteFront written now text)

-- the last line of a cause, or a prefix of it and the output failed; if there was no memory for it, the line that says so
pub record Closes (stop : ReplayEnd) (lines : ℕ) (written now : Option (List ℕ)) (how : ReplayEnd) : Type 0 where
  pub last : ReplayEnd
  pub last_is : (last ≡ stop) ⊎ (last ≡ NoMemory)
  pub writes : ((how ≡ last) × Appends written now (last_line last lines)) ⊎ ((how ≡ WriteFault) × WroteFront written now (last_line last lines))

-- a last line was written, or a prefix of it and the output failed
abbrev pub WritesLast : Option (List ℕ) → Option (List ℕ) → List ℕ → ReplayEnd → ReplayEnd → Type 0
WritesLast written now last end how = ((how ≡ end) × Appends written now last) ⊎ ((how ≡ WriteFault) × WroteFront written now last)

-- The last line of such an end was written, as at a replay that played no line, and the status is that end's. The end may be another one if the
-- line could not be made or written.
pub record Reports (end : ReplayEnd) (written now : Option (List ℕ)) (status : ℕ) : Type 0 where
  pub how : ReplayEnd
  pub closes : Closes end 0 written now how
  pub status_is : status ≡ status_of how

-- there is no memory to read the words: nothing else is done, as `same` says
abbrev pub WantsMemory : Type 0 → Option (List ℕ) → Option (List ℕ) → ℕ → Type 0
WantsMemory same written now status = same × ShowsWith (codes "no memory\n") 6 written now status

-- the words have a mistake: nothing else is done, as `same` says
abbrev pub RefusesUsage : Type 0 → Option (List ℕ) → Option (List ℕ) → ℕ → Type 0
RefusesUsage same written now status = same × ShowsWith (codes "usage refused\n") 2 written now status

-- some text is shown, and nothing else is done, as `same` says
pub record ShowsText (same : Type 0) (written now : Option (List ℕ)) (status : ℕ) : Type 0 where
  pub text : List ℕ
  pub untouched : same
  pub shows : ShowsWith text 0 written now status
