-- How a command that copies ends: its exit status, and the last line that it writes.
use Rattle.std.specs.Prelude.{◌⊎◌, ℕ, List, ◌++◌, codes, Option}
use Rattle.std.specs.Fmt.{decimal}
use Rattle.frame_log.specs.declared.fault.StartFault.{StartFault}
use Rattle.frame_log.specs.declared.fault.StartFault.TheVariants as start
use Rattle.command_io.specs.Ends.{ShowsWith}
use Rattle.row_copies.specs.declared.walk.Copied.{Copied}

abbrev pub copied_line : Copied → List ℕ
copied_line counts = codes "copied " ++ (decimal counts.files ++ (codes " " ++ (decimal counts.directories ++ codes "\n")))

-- the edit log of the copies could not be opened

abbrev pub start_status : StartFault → ℕ
start_status (start.Damaged at) = 4
start_status start.StoreFault = 5
start_status start.NoMemory = 6
start_status start.Spent = 10

abbrev pub start_line : StartFault → List ℕ
start_line (start.Damaged at) = codes "damaged copies " ++ decimal at ++ codes "\n"
start_line start.StoreFault = codes "store fault\n"
start_line start.NoMemory = codes "no memory\n"
start_line start.Spent = codes "openings spent\n"

-- the line was written with its status, or there was no memory for it
abbrev pub ShowsLine : List ℕ → ℕ → Option (List ℕ) → Option (List ℕ) → ℕ → Type 0
ShowsLine line own written now status = ShowsWith line own written now status ⊎ ShowsWith (codes "no memory\n") 6 written now status
