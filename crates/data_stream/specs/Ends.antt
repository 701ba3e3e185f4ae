-- How a command ends: its exit status, and the last line that it writes.
use Rattle.std.specs.Prelude.{◌≡◌, ◌⊎◌, ℕ, List, [], ◌++◌, codes, Option}
use Rattle.std.specs.Fmt.{decimal}
use Rattle.kms_calls.specs.Refusals.{refusal_text}
use Rattle.name_text.specs.Refusals.{name_refusal_text}
use Rattle.command_io.specs.Ends.{ShowsWith}
use Rattle.file_orders.specs.declared.ends.FsEnd.{FsEnd}
use Rattle.file_orders.specs.declared.ends.FsEnd.TheVariants as end

abbrev pub status_of : FsEnd → ℕ
status_of (end.Put count) = 0
status_of (end.Read count) = 0
status_of (end.NameRefused why) = 11
status_of (end.KeyRefused why) = 11
status_of end.Directory = 11
status_of end.StoreFault = 5
status_of end.NoMemory = 6
status_of end.ReadFault = 7
status_of end.WriteFault = 8
status_of end.VaultFault = 12
status_of end.TooLong = 13

abbrev pub last_line : FsEnd → List ℕ
last_line (end.Put count) = codes "put " ++ decimal count ++ codes "\n"
last_line (end.Read count) = []
last_line (end.NameRefused why) = codes "refused " ++ name_refusal_text why ++ codes "\n"
last_line (end.KeyRefused why) = codes "refused " ++ refusal_text why ++ codes "\n"
last_line end.Directory = codes "refused Directory\n"
last_line end.StoreFault = codes "store fault\n"
last_line end.NoMemory = codes "no memory\n"
last_line end.ReadFault = codes "read fault\n"
last_line end.WriteFault = []
last_line end.VaultFault = codes "vault fault\n"
last_line end.TooLong = codes "body too long\n"

-- The last line of an end was written, and the status is that end's; or a prefix of it, and the output failed. If there was no memory for
-- the line, the end is another.
pub record ClosesWith (how : FsEnd) (written now : Option (List ℕ)) (status : ℕ) : Type 0 where
  pub last : FsEnd
  pub last_is : (last ≡ how) ⊎ (last ≡ end.NoMemory)
  pub shows : ShowsWith (last_line last) (status_of last) written now status
