-- Why a command ends with its exit status.
use Rattle.std.specs.Prelude.{◌≡◌, ◌≢◌, ◌⊎◌, ◌<◌, ℕ, List, ◌∷◌, length, Option, Some, Result, Ok}
use Rattle.hk_base.specs.Disk.{DiskState}
use Rattle.hk_base.specs.Faults.{Rose}
use Rattle.frame_log.specs.declared.fault.StartFault.TheVariants as start
use Rattle.hk_events.specs.declared.event.Line.{Line}
use Rattle.hk_events.specs.declared.event.Line.TheVariants as line
use Rattle.kms_calls.specs.declared.calls.KmsReply.TheVariants as key_reply
use Rattle.name_calls.specs.declared.calls.NameReply.TheVariants as reply
use Rattle.prop_text.specs.declared.faults.PropFault.{PropFault}
use Rattle.prop_text.specs.declared.faults.PropFault.TheVariants as prop
use Rattle.prop_text.specs.declared.props.Props.{Props}
use Rattle.command_io.specs.Properties.{HasPropsFault, ReadsProperties}
use Rattle.command_io.specs.declared.props.PropsFault.TheVariants.{TextFault}
use Rattle.world_run.specs.Starts.{FailsAt, OpensBoth}
use Rattle.hk_runs.specs.Run.{Happened, History}
use Rattle.body_stream.specs.Transfers.{longest_body}
use Rattle.body_stream.specs.Vaults.{TellsBodies, VaultState}
use Rattle.fs_command_line.specs.Orders.{Names}
use Rattle.fs_command_line.specs.declared.order.FsOrder.{FsOrder}
use Rattle.fs_command_line.specs.declared.order.FsOrder.TheVariants.{Put}
use Rattle.clap_lines.specs.declared.told.OrderFault.{OrderFault}
use Rattle.file_orders.specs.Bodies.{HadBody}
use Rattle.file_orders.specs.Ends.{end_of_keys, end_of_names}
use Rattle.file_orders.specs.declared.ends.FsEnd.{FsEnd}
use Rattle.file_orders.specs.declared.ends.FsEnd.TheVariants as end
use Rattle.data_stream.specs.Runs.{Worked}

-- what an exit status may stand for
pub data Reason : Type 0 where
  -- the body was stored, the range was written, or help or the version was shown
  Done : Reason
  -- the words have a mistake
  BadWords : Reason
  -- the properties have a mistake
  BadProperties : Reason
  -- a log is damaged
  Damaged : Reason
  -- the disk failed
  StoreFailed : Reason
  NoMemory : Reason
  -- the properties or the input failed
  ReadFailed : Reason
  -- the output failed
  WriteFailed : Reason
  -- the last opening of a log is used up
  Spent : Reason
  -- an event was refused, or the path is that of a directory
  Refused : Reason
  -- the vault failed, or it had a body for a new file
  VaultFailed : Reason
  -- the input is longer than a body may be
  TooLong : Reason

abbrev pub status_by : Reason → ℕ
status_by Done = 0
status_by BadWords = 2
status_by BadProperties = 3
status_by Damaged = 4
status_by StoreFailed = 5
status_by NoMemory = 6
status_by ReadFailed = 7
status_by WriteFailed = 8
status_by Spent = 10
status_by Refused = 11
status_by VaultFailed = 12
status_by TooLong = 13

-- how an answer that leads to no further event ends a command
abbrev pub end_in : Line → FsEnd
end_in (line.Refused why) = end_of_names why
end_in (line.Name (reply.Refused why)) = end_of_names why
end_in (line.Name (reply.Dir _ _ _)) = end.Directory
end_in (line.Kms (key_reply.Refused why)) = end_of_keys why
end_in _ = end.NoMemory

-- an event was refused, neither by a fault of the disk nor for want of memory, or the path is that of a directory
abbrev pub IsRefusal : FsEnd → Type 0
IsRefusal (end.NameRefused why) = Unit {0}
IsRefusal (end.KeyRefused why) = Unit {0}
IsRefusal end.Directory = Unit {0}
IsRefusal _ = ⊥

-- Under properties that were read, both logs were opened, and the last event that happened was answered with a refusal.
pub record WasRefused (old new : DiskState) (acls acls' : Option (List ℕ)) (words words' : ℕ → ℕ) : Type 0 where
  pub props : Props
  pub read : ReadsProperties acls acls' props
  pub worked : Worked props old new words words'
  pub last : Happened
  pub earlier : History
  pub history_is : worked.history ≡ last ∷ earlier
  pub refused : IsRefusal (end_in last.reply)

-- What surrounds a command, before and after it. The first six are propositions: the words have a mistake, they name a put, and the
-- properties, the input, the output and the vault failed in the command.
pub record Surroundings : Type 1 where
  pub mistake : Type 0
  pub puts : Type 0
  pub properties_failed : Type 0
  pub input_failed : Type 0
  pub output_failed : Type 0
  pub vault_failed : Type 0
  pub disk : DiskState
  pub disk' : DiskState
  pub acls : Option (List ℕ)
  pub acls' : Option (List ℕ)
  pub words : ℕ → ℕ
  pub words' : ℕ → ℕ
  pub input : Option (List ℕ)
  pub vault : VaultState

-- A reason is good. Of a lack of memory nothing is said.
abbrev pub IsGood : Surroundings → Reason → Type 0
IsGood s Done = Unit {0}
IsGood s BadWords = s.mistake
IsGood s BadProperties = (fault : PropFault) × (fault ≢ prop.NoMemory) × HasPropsFault s.acls (TextFault fault)
IsGood s Damaged = (file at : ℕ) × OpensBoth s.disk s.disk' (FailsAt file (start.Damaged at))
IsGood s StoreFailed = Rose s.disk.faults s.disk'.faults
IsGood s NoMemory = Unit {0}
IsGood s ReadFailed = s.properties_failed ⊎ (s.puts × s.input_failed)
IsGood s WriteFailed = s.output_failed
IsGood s Spent = (file : ℕ) × OpensBoth s.disk s.disk' (FailsAt file start.Spent)
IsGood s Refused = WasRefused s.disk s.disk' s.acls s.acls' s.words s.words'
IsGood s VaultFailed = s.vault_failed ⊎ (s.puts × (TellsBodies s.vault → HadBody s.vault))
IsGood s TooLong = s.puts × ((all : List ℕ) → s.input ≡ Some all → longest_body < length all)

-- a status has a good reason
abbrev pub HasReason : Surroundings → ℕ → Type 0
HasReason s status = (reason : Reason) × (status ≡ status_by reason) × IsGood s reason

-- the words name a put
abbrev pub NamesPut : List (List ℕ) → Type 0
NamesPut words = (user path : List ℕ) × Names (Put user path) words

-- the order that was read is a put
abbrev pub OrdersPut : Result FsOrder OrderFault → Type 0
OrdersPut given = (user path : List ℕ) × (given ≡ Ok (Put user path))
