-- Yards over real files, and in memory.
use Rattle.std.specs.Prelude.{ℕ, zero, suc, List, [], Bool, true, false, Option, None, Some, is_some}
use Rattle.server_parts.specs.Yards.{YardState}
use Rattle.disk_kinds.specs.declared.mem_disk.MemDisk.{MemDisk}
use Rattle.disk_kinds.specs.Past.{reads_of}
use Rattle.door_kinds.specs.declared.file_yard.FileYard.{FileYard}
use Rattle.door_kinds.specs.declared.mem_yard.MemYard.{MemYard}

-- the value for file 0 or for file 1
abbrev pub by_file : {A : Type 0} → A → A → ℕ → A
by_file first second zero = first
by_file first second (suc f) = second

-- A yard that promises nothing about the files.
abbrev pub opaque_yard : Bool → Bool → ℕ → YardState
opaque_yard first second faults = record {
  tells = false;
  lies = by_file first second;
  reads = λ f. [];
  faults = faults;
}

-- what a file reads as while its disk lies in a yard
abbrev pub lying : ℕ → Option MemDisk → List ℕ
lying file None = []
lying file (Some disk) = reads_of disk file

-- A yard that promises what the files read as.
abbrev pub known_yard : Option MemDisk → Option MemDisk → ℕ → YardState
known_yard first second faults = record {
  tells = true;
  lies = by_file (is_some first) (is_some second);
  reads = by_file (lying 0 first) (lying 1 second);
  faults = faults;
}

abbrev pub file_yard_state : FileYard → YardState
file_yard_state y = opaque_yard (is_some y.keys) (is_some y.names) y.faults

abbrev pub mem_yard_state : MemYard → YardState
mem_yard_state y = known_yard y.first y.second y.faults
