-- What a command does: the properties are read, both logs are opened, and then its file is put or read.
use Rattle.std.specs.Prelude.{◌≡◌, ◌⊎◌, ℕ, List, [], codes, string_bytes, Option, Result, Ok, Err}
use Rattle.hk_base.specs.Disk.{DiskState}
use Rattle.frame_log.specs.declared.fault.StartFault.{StartFault}
use Rattle.prop_text.specs.declared.props.Props.{Props}
use Rattle.world_run.specs.Ledger.{Past}
use Rattle.world_run.specs.Starts.{FailsAt, OpensBoth}
use Rattle.command_io.specs.Ends.{Reports, ShowsWith, ended_by, ended_by_props}
pub use Rattle.command_io.specs.Ends.{RefusesUsage, ShowsText, WantsMemory}
use Rattle.command_io.specs.Properties.{HasPropsFault, ReadsProperties}
use Rattle.command_io.specs.declared.props.PropsFault.{PropsFault}
use Rattle.hk_runs.specs.Headline.{Headline, known_after}
use Rattle.body_stream.specs.Vaults.{TellsBodies, VaultState}
use Rattle.fs_command_line.specs.declared.order.FsOrder.{FsOrder}
use Rattle.fs_command_line.specs.declared.order.FsOrder.TheVariants.{Put, Read, Help, Version}
use Rattle.clap_lines.specs.declared.told.OrderFault.{OrderFault}
use Rattle.clap_lines.specs.declared.told.OrderFault.TheVariants.{Usage, NoMemory}
use Rattle.file_orders.specs.Bodies.{Puts, ReadsRange}
use Rattle.file_orders.specs.declared.ends.FsEnd.{FsEnd}
use Rattle.file_orders.specs.declared.ends.FsEnd.TheVariants as end
use Rattle.data_stream.specs.Bodies.{HasReadBody, HasStored}
use Rattle.data_stream.specs.Ends.{ClosesWith}
use Rattle.data_stream.specs.Runs.{AddsEvent, Worked, last_world, world_before}

-- The properties could not be read: nothing else was done, as `same` says, and the last line tells of it.
pub record RefusesProperties (same : Type 0) (acls written now : Option (List ℕ)) (status : ℕ) : Type 0 where
  pub fault : PropsFault
  pub has_fault : HasPropsFault acls fault
  pub untouched : same
  pub reports : Reports (ended_by_props fault) written now status

-- A log could not be opened: nothing but the disk was changed, as `same` says, and the last line tells of it.
pub record CannotOpen (same : Type 0) (old new : DiskState) (written now : Option (List ℕ)) (status : ℕ) : Type 0 where
  pub file : ℕ
  pub fault : StartFault
  pub not_opened : OpensBoth old new (FailsAt file fault)
  pub untouched : same
  pub reports : Reports (ended_by file fault) written now status

-- Both logs were opened, and a file was put: `how` says how that ended.
pub record PutOnDisk (props : Props) (user path : List ℕ) (old new : DiskState) (words words' : ℕ → ℕ) (left left' : Option (List ℕ)) (vault vault' : VaultState) (written now : Option (List ℕ)) (status : ℕ) : Type 0 where
  pub how : FsEnd
  pub worked : Worked props old new words words'
  -- the time of the events
  pub moment : ℕ
  pub puts : Puts (AddsEvent moment) user path [] how worked.history left left' vault vault'
  pub closes : ClosesWith how written now status

abbrev pub PutUnder : Props → Type 0 → List ℕ → List ℕ → DiskState → DiskState → (ℕ → ℕ) → (ℕ → ℕ) → Option (List ℕ) → Option (List ℕ) → VaultState → VaultState → Option (List ℕ) → Option (List ℕ) → ℕ → Type 0
PutUnder props same user path old new words words' left left' vault vault' written now status =
    CannotOpen same old new written now status ⊎ PutOnDisk props user path old new words words' left left' vault vault' written now status

-- The properties were read first, then both logs were opened, and then the file was put. `same_disk` says that the disk is unchanged, and
-- `same` that the input, the vault, the random words and the clock are.
pub record PutWith (same : Type 0) (user path : List ℕ) (old new : DiskState) (acls acls' : Option (List ℕ)) (words words' : ℕ → ℕ) (left left' : Option (List ℕ)) (vault vault' : VaultState) (written now : Option (List ℕ)) (status : ℕ) : Type 0 where
  pub props : Props
  pub read : ReadsProperties acls acls' props
  pub put : PutUnder props same user path old new words words' left left' vault vault' written now status

abbrev pub PutsFile : Type 0 → Type 0 → List ℕ → List ℕ → DiskState → DiskState → Option (List ℕ) → Option (List ℕ) → (ℕ → ℕ) → (ℕ → ℕ) → Option (List ℕ) → Option (List ℕ) → VaultState → VaultState → Option (List ℕ) → Option (List ℕ) → ℕ → Type 0
PutsFile same_disk same user path old new acls acls' words words' left left' vault vault' written now status =
    RefusesProperties (same_disk × same) acls written now status ⊎ PutWith same user path old new acls acls' words words' left left' vault vault' written now status

-- Both logs were opened, and a range of a file was read: `how` says how that ended, and `body` is what was written by then.
pub record ReadOnDisk (props : Props) (user path : List ℕ) (from count : ℕ) (old new : DiskState) (words words' : ℕ → ℕ) (vault vault' : VaultState) (written now : Option (List ℕ)) (status : ℕ) : Type 0 where
  pub how : FsEnd
  pub body : Option (List ℕ)
  pub worked : Worked props old new words words'
  -- the time of the events
  pub moment : ℕ
  pub reads : ReadsRange (AddsEvent moment) user path from count [] how worked.history vault vault' written body
  pub closes : ClosesWith how body now status

abbrev pub ReadUnder : Props → Type 0 → List ℕ → List ℕ → ℕ → ℕ → DiskState → DiskState → (ℕ → ℕ) → (ℕ → ℕ) → VaultState → VaultState → Option (List ℕ) → Option (List ℕ) → ℕ → Type 0
ReadUnder props same user path from count old new words words' vault vault' written now status =
    CannotOpen same old new written now status ⊎ ReadOnDisk props user path from count old new words words' vault vault' written now status

pub record ReadWith (same : Type 0) (user path : List ℕ) (from count : ℕ) (old new : DiskState) (acls acls' : Option (List ℕ)) (words words' : ℕ → ℕ) (vault vault' : VaultState) (written now : Option (List ℕ)) (status : ℕ) : Type 0 where
  pub props : Props
  pub read : ReadsProperties acls acls' props
  pub range : ReadUnder props same user path from count old new words words' vault vault' written now status

-- the same for a range that is read
abbrev pub ReadsFile : Type 0 → Type 0 → List ℕ → List ℕ → ℕ → ℕ → DiskState → DiskState → Option (List ℕ) → Option (List ℕ) → (ℕ → ℕ) → (ℕ → ℕ) → VaultState → VaultState → Option (List ℕ) → Option (List ℕ) → ℕ → Type 0
ReadsFile same_disk same user path from count old new acls acls' words words' vault vault' written now status =
    RefusesProperties (same_disk × same) acls written now status ⊎ ReadWith same user path from count old new acls acls' words words' vault vault' written now status

-- ---- what is kept

-- A file was put, and the history of the events keeps the promise. If its whole body was put, it is stored under the draw of the file.
pub record PutKept (past : Past) (user path : List ℕ) (old new : DiskState) (acls acls' : Option (List ℕ)) (words words' : ℕ → ℕ) (left left' : Option (List ℕ)) (vault vault' : VaultState) (written now : Option (List ℕ)) (status : ℕ) : Type 0 where
  pub props : Props
  pub read : ReadsProperties acls acls' props
  pub put : PutOnDisk props user path old new words words' left left' vault vault' written now status
  pub keeps : Headline past props.lines old new words (world_before put.worked) put.worked.history
  pub stored : (count : ℕ) → put.how ≡ end.Put count → TellsBodies vault → HasStored (known_after past (world_before put.worked) words put.worked.history) (last_world put.worked) path count left left' vault vault'

-- A range was read, and the history of the events keeps the promise. If the whole range was read, it is that range of what was put.
pub record ReadKept (past : Past) (user path : List ℕ) (from count : ℕ) (old new : DiskState) (acls acls' : Option (List ℕ)) (words words' : ℕ → ℕ) (vault vault' : VaultState) (written now : Option (List ℕ)) (status : ℕ) : Type 0 where
  pub props : Props
  pub read : ReadsProperties acls acls' props
  pub range : ReadOnDisk props user path from count old new words words' vault vault' written now status
  pub keeps : Headline past props.lines old new words (world_before range.worked) range.worked.history
  pub wrote : (sent : ℕ) → range.how ≡ end.Read sent → TellsBodies vault → HasReadBody (known_after past (world_before range.worked) words range.worked.history) (last_world range.worked) path from count vault written range.body

-- ---- the words

-- what is done at an order: a file is put, a range is read, or a text is shown
abbrev pub Obeys : Result FsOrder OrderFault → (List ℕ → List ℕ → Type 0) → (List ℕ → List ℕ → ℕ → ℕ → Type 0) → Type 0 → Option (List ℕ) → Option (List ℕ) → ℕ → Type 0
Obeys (Ok (Put user path)) puts reads same written now status = puts user path
Obeys (Ok (Read user path from count)) puts reads same written now status = reads user path from count
Obeys (Ok (Help text)) puts reads same written now status = same × ShowsWith (string_bytes text) 0 written now status
Obeys (Ok (Version text)) puts reads same written now status = same × ShowsWith (string_bytes text) 0 written now status
Obeys (Err Usage) puts reads same written now status = RefusesUsage same written now status
Obeys (Err NoMemory) puts reads same written now status = WantsMemory same written now status
