-- Why a copy, or a read of one, ends with its exit status.
use Rattle.std.specs.Prelude.{◌≡◌, ◌≢◌, ◌⊎◌, ℕ, ⊤, List, [], Option, Result, Ok, Err, IsErrOf}
use Rattle.hk_base.specs.Disk.{DiskState}
use Rattle.hk_base.specs.Faults.{Rose}
use Rattle.hk_base.specs.declared.disk.Disk as disks
use Rattle.hk_base.specs.declared.outside.Source as sources
use Rattle.hk_base.specs.declared.outside.Sink as sinks
use Rattle.hk_base.specs.declared.outside.Words as random
use Rattle.body_stream.specs.declared.vault.Vault as vaults
use Rattle.frame_log.specs.declared.fault.StartFault.TheVariants as start
use Rattle.body_stream.specs.Vaults.{VaultState}
use Rattle.prop_text.specs.declared.faults.PropFault.{PropFault}
use Rattle.prop_text.specs.declared.faults.PropFault.TheVariants as prop
use Rattle.prop_text.specs.declared.props.Props.{Props}
use Rattle.command_io.specs.Properties.{HasPropsFault, ReadsProperties}
use Rattle.command_io.specs.declared.props.PropsFault.TheVariants.{TextFault}
use Rattle.world_run.specs.Starts.{FailsAt, OpensBoth}
use Rattle.name_store.specs.Store.{OpensNames}
use Rattle.file_orders.specs.declared.ends.FsEnd.{FsEnd}
use Rattle.raw_copy.specs.declared.backup.CopyFault.TheVariants.{End}
use Rattle.raw_copy.specs.Copies.{VaultsFailed, not_started}
use Rattle.clap_lines.specs.declared.told.OrderFault.{OrderFault}
use Rattle.copy_command_line.specs.declared.order.CopyOrder.{CopyOrder}
use Rattle.copy_command_line.specs.declared.order.CopyOrder.TheVariants.{Copy, Read}
use Rattle.copy_reads.specs.Commands.{ReadsOpened}
use Rattle.copy_runs.specs.Commands.{CopiesOnDisks}
use Rattle.copy_runs.specs.Runs.{Clusters}
use Rattle.copy_command.specs.Files.{LacksMemory}
use Rattle.data_stream.specs.Runs.{AddsEvent, Worked}
use Rattle.data_stream.specs.Statuses.{IsRefusal, Reason, status_by}
use Rattle.data_stream.specs.Statuses.{BadProperties, BadWords, Damaged, Done, NoMemory, ReadFailed, Refused, Spent, StoreFailed, TooLong, VaultFailed, WriteFailed}

-- What surrounds a copy, before and after it. The first four are propositions: a disk, the properties, the output and a vault failed in it.
pub record Around (E : Type 0) : Type 1 where
  pub disk_failed : Type 0
  pub properties_failed : Type 0
  pub output_failed : Type 0
  pub vault_failed : Type 0
  pub disk : DiskState
  pub disk' : DiskState
  -- what is read of the other disk
  pub backup_of : E → DiskState
  pub backup : E
  pub backup' : E
  pub acls : Option (List ℕ)
  pub acls' : Option (List ℕ)
  pub words : ℕ → ℕ
  pub words' : ℕ → ℕ
  pub vault : VaultState
  pub vault' : VaultState
  pub copies : VaultState
  pub copies' : VaultState

-- Under properties that were read, all logs were opened, and the copy ended with a refusal. `refused` of the copy says by whom.
pub record EndsRefused {E : Type 0} (s : Around E) (from to : List ℕ) (written now : Option (List ℕ)) (status : ℕ) : Type 0 where
  pub props : Props
  pub read : ReadsProperties s.acls s.acls' props
  pub copy : CopiesOnDisks s.backup_of props from to s.disk s.disk' s.backup s.backup' s.words s.words' s.vault s.vault' s.copies s.copies' written now status
  pub why : FsEnd
  pub ended_is : copy.ended ≡ Err (End why)
  pub refusal : IsRefusal why

-- Under properties that were read, all logs were opened, and the read ended with a refusal. What is known of the read says by what.
pub record ReadRefused {E : Type 0} (s : Around E) (user path : List ℕ) (from count : ℕ) (written now : Option (List ℕ)) (status : ℕ) : Type 0 where
  pub props : Props
  pub read : ReadsProperties s.acls s.acls' props
  pub worked : Worked props s.disk s.disk' s.words s.words'
  pub range : ReadsOpened AddsEvent props.sizes.batch user path from count (s.backup_of s.backup) (s.backup_of s.backup') [] worked.history s.copies s.copies' written now status
  pub refusal : IsRefusal range.how

-- A reason is good; `refused` says that there was a refusal. Of a lack of memory nothing is said, and the words have no mistake.
abbrev pub IsGoodFor : {E : Type 0} → Around E → (refused : Type 0) → Reason → Type 0
IsGoodFor s refused Done = Unit {0}
IsGoodFor s refused BadWords = ⊥
IsGoodFor s refused BadProperties = (fault : PropFault) × (fault ≢ prop.NoMemory) × HasPropsFault s.acls (TextFault fault)
IsGoodFor s refused Damaged =
    ((file at : ℕ) × OpensBoth s.disk s.disk' (FailsAt file (start.Damaged at))) ⊎ ((at : ℕ) × OpensNames (s.backup_of s.backup) (s.backup_of s.backup') (IsErrOf (not_started (start.Damaged at))))
IsGoodFor s refused StoreFailed = s.disk_failed
IsGoodFor s refused NoMemory = Unit {0}
IsGoodFor s refused ReadFailed = s.properties_failed
IsGoodFor s refused WriteFailed = s.output_failed
IsGoodFor s refused Spent =
    ((file : ℕ) × OpensBoth s.disk s.disk' (FailsAt file start.Spent)) ⊎ OpensNames (s.backup_of s.backup) (s.backup_of s.backup') (IsErrOf (not_started start.Spent))
IsGoodFor s refused Refused = refused
IsGoodFor s refused VaultFailed = s.vault_failed
IsGoodFor s refused TooLong = ⊥

abbrev pub HasReasonFor : {E : Type 0} → Around E → (refused : Type 0) → ℕ → Type 0
HasReasonFor s refused status = (reason : Reason) × (status ≡ status_by reason) × IsGoodFor s refused reason

-- if the order is a copy, this holds of its texts
abbrev pub OfCopy : Result CopyOrder OrderFault → (List ℕ → List ℕ → Type 0) → Type 0
OfCopy (Ok (Copy source target)) Holds = Holds source target
OfCopy _ Holds = ⊤

-- if it is a read, this holds of its user, its path and its range
abbrev pub OfRead : Result CopyOrder OrderFault → (List ℕ → List ℕ → ℕ → ℕ → Type 0) → Type 0
OfRead (Ok (Read user path from count)) Holds = Holds user path from count
OfRead _ Holds = ⊤

module _ {D V E U K W C A : Type 0} (of_disk : disks.Ghosts D) (of_vault : vaults.Ghosts V) (of_backup : disks.Ghosts E) (of_copies : vaults.Ghosts U) (of_out : sinks.Ghosts K) (of_rand : random.Ghosts W) (of_acls : sources.Ghosts A)
    (old new : Clusters D V E U K W C) (acls acls' : A) where
  abbrev pub around : Around E
  around = record {
    disk_failed = Rose (of_disk.state old.disk).faults (of_disk.state new.disk).faults ⊎ Rose (of_backup.state old.backup).faults (of_backup.state new.backup).faults;
    properties_failed = Rose (of_acls.faults acls) (of_acls.faults acls');
    output_failed = Rose (of_out.faults old.out) (of_out.faults new.out);
    vault_failed = VaultsFailed (of_vault.state old.vault) (of_vault.state new.vault) (of_copies.state old.copies) (of_copies.state new.copies);
    disk = of_disk.state old.disk;
    disk' = of_disk.state new.disk;
    backup_of = of_backup.state;
    backup = old.backup;
    backup' = new.backup;
    acls = of_acls.left acls;
    acls' = of_acls.left acls';
    words = of_rand.to_come old.rand;
    words' = of_rand.to_come new.rand;
    vault = of_vault.state old.vault;
    vault' = of_vault.state new.vault;
    copies = of_copies.state old.copies;
    copies' = of_copies.state new.copies;
  }

  -- the status of a copy has a good reason
  abbrev pub CopyHasReason : List ℕ → List ℕ → ℕ → Type 0
  CopyHasReason source target status = HasReasonFor around (EndsRefused around source target (of_out.written old.out) (of_out.written new.out) status) status

  -- that of an order has one if it is a copy
  abbrev pub OrderHasReason : Result CopyOrder OrderFault → ℕ → Type 0
  OrderHasReason order status = OfCopy order (λ source target. CopyHasReason source target status)

  -- or there is no memory to read the words
  abbrev pub ReasonByWords : List ℕ → List ℕ → ℕ → Type 0
  ReasonByWords source target status = CopyHasReason source target status ⊎ LacksMemory of_out old new acls acls' status

  -- the status of a read has a good reason
  abbrev pub ReadHasReason : List ℕ → List ℕ → ℕ → ℕ → ℕ → Type 0
  ReadHasReason user path from count status = HasReasonFor around (ReadRefused around user path from count (of_out.written old.out) (of_out.written new.out) status) status

  -- that of an order has one if it is a read
  abbrev pub OrderReadHasReason : Result CopyOrder OrderFault → ℕ → Type 0
  OrderReadHasReason order status = OfRead order (λ user path from count. ReadHasReason user path from count status)

  -- or there is no memory to read the words
  abbrev pub ReadReasonByWords : List ℕ → List ℕ → ℕ → ℕ → ℕ → Type 0
  ReadReasonByWords user path from count status = ReadHasReason user path from count status ⊎ LacksMemory of_out old new acls acls' status
