-- The properties are read, the logs of both clusters are opened, and then a range of a copied file is read.
use Rattle.std.specs.Prelude.{◌≡◌, ◌⊎◌, ℕ, List, [], ◌∷◌, ◌++◌, codes, Option}
use Rattle.std.specs.Fmt.{decimal}
use Rattle.hk_base.specs.Disk.{DiskState, RunOn, Tells}
use Rattle.frame_log.specs.declared.fault.StartFault.{StartFault}
use Rattle.frame_log.specs.declared.fault.StartFault.TheVariants as start
use Rattle.edit_ops.specs.declared.ops.EditOp.{EditOp}
use Rattle.key_rows.specs.declared.rows.KeyRow.{KeyRow}
use Rattle.name_store.specs.Store.{IsNameLog, OpensNames}
use Rattle.name_store.specs.Table.{NameTable, next_opening}
use Rattle.name_core.specs.State.{IsNamesystemOf, RunningNames, service_of, started}
use Rattle.prop_text.specs.declared.props.Props.{Props}
use Rattle.command_io.specs.Ends.{ShowsWith}
use Rattle.command_io.specs.Properties.{ReadsProperties}
use Rattle.world_run.specs.Ledger.{Past}
use Rattle.hk_runs.specs.Headline.{Headline}
use Rattle.body_stream.specs.Vaults.{TellsBodies, VaultState}
use Rattle.file_orders.specs.Events.{Leading}
use Rattle.file_orders.specs.declared.ends.FsEnd.{FsEnd}
use Rattle.file_orders.specs.declared.ends.FsEnd.TheVariants as end
use Rattle.data_stream.specs.Commands.{CannotOpen, RefusesProperties}
use Rattle.data_stream.specs.Ends.{ClosesWith}
use Rattle.data_stream.specs.Runs.{AddsEvent, Worked, last_world, world_before}
use Rattle.copy_reads.specs.Bodies.{HasReadCopy}
use Rattle.copy_reads.specs.Copies.{CauseOfRead, ReadsCopy}

-- ---- the log of the second namesystem could not be opened

abbrev pub copies_status : StartFault → ℕ
copies_status (start.Damaged at) = 4
copies_status start.StoreFault = 5
copies_status start.NoMemory = 6
copies_status start.Spent = 10

abbrev pub copies_line : StartFault → List ℕ
copies_line (start.Damaged at) = codes "damaged copies " ++ decimal at ++ codes "\n"
copies_line start.StoreFault = codes "store fault\n"
copies_line start.NoMemory = codes "no memory\n"
copies_line start.Spent = codes "openings spent\n"

-- The last line of the fault was written, and the status is the fault's; or a prefix of it, and the output failed. If there was no memory
-- for the line, the fault is that.
pub record ReportsCopies (fault : StartFault) (written now : Option (List ℕ)) (status : ℕ) : Type 0 where
  pub last : StartFault
  pub last_is : (last ≡ fault) ⊎ (last ≡ start.NoMemory)
  pub shows : ShowsWith (copies_line last) (copies_status last) written now status

-- The log could not be opened. No event happened, and nothing but both disks was changed, as `same` says.
pub record CannotOpenCopies {X : Type 0} (same : Type 0) (backup backup' : DiskState) (a b : X) (written now : Option (List ℕ)) (status : ℕ) : Type 0 where
  pub fault : StartFault
  pub not_opened : OpensNames backup backup' (λ other. fault ≡ other)
  pub nothing : b ≡ a
  pub untouched : same
  pub reports : ReportsCopies fault written now status

-- ---- it was opened

-- The log of the second namesystem was read, and holds these operations: those found, the new opening, and those after it.
pub record HoldsCopies (backup backup' : DiskState) (found : NameTable) (after : RunningNames) : Type 0 where
  pub ops : List EditOp
  pub used : List ℕ
  pub later : List EditOp
  pub log : IsNameLog (backup.reads 1) ops (record { table = found; used = used })
  pub stands : IsNamesystemOf backup' after ((ops ++ next_opening found ∷ []) ++ later)

-- The second namesystem was started with the table found in its log, and is the same in the end. A range was read: `how` says how that
-- ended, `cause` by what it was refused if it was, and `body` is what was written by then. Events led from a to b.
pub record ReadsOpened {X : Type 0} (leads : ℕ → Leading X) (batch : ℕ) (user path : List ℕ) (from count : ℕ) (backup backup' : DiskState) (a b : X) (copies copies' : VaultState) (written now : Option (List ℕ)) (status : ℕ) : Type 0 where
  pub found : NameTable
  pub names : RunningNames
  pub opens : service_of names ≡ started batch found
  pub after : RunningNames
  pub same : service_of after ≡ service_of names
  pub holds : Tells backup → HoldsCopies backup backup' found after
  pub run : RunOn 1 backup backup'
  pub how : FsEnd
  pub cause : CauseOfRead names user path how
  pub body : Option (List ℕ)
  -- the time of the event
  pub moment : ℕ
  pub reads : ReadsCopy (leads moment) names.store.table.rows user path from count a how b copies copies' written body
  pub closes : ClosesWith how body now status

-- the second namesystem was not opened, or the range was read
abbrev pub Rest : {X : Type 0} → (ℕ → Leading X) → Type 0 → ℕ → List ℕ → List ℕ → ℕ → ℕ → DiskState → DiskState → X → X → VaultState → VaultState → Option (List ℕ) → Option (List ℕ) → ℕ → Type 0
Rest leads same batch user path from count backup backup' a b copies copies' written now status =
    CannotOpenCopies same backup backup' a b written now status ⊎ ReadsOpened leads batch user path from count backup backup' a b copies copies' written now status

-- with these rows of keys, what was read of the second namesystem is the range of the bytes that were copied
abbrev pub Wrote : List KeyRow → List ℕ → ℕ → ℕ → VaultState → Option (List ℕ) → FsEnd → Option (List ℕ) → RunningNames → Type 0
Wrote keys path from count copies written how body names = (sent : ℕ) → how ≡ end.Read sent → TellsBodies copies → HasReadCopy keys names.store.table.rows path from count copies written body

-- ---- both

-- After these events of the first cluster, the second namesystem was not opened, or the range was read. If the whole range was written, and
-- the disk of the first cluster tells its content, it is that of the bytes that were copied.
abbrev pub RestAfter : {props : Props} {old new : DiskState} {words words' : ℕ → ℕ} → Worked props old new words words' → Type 0 → List ℕ → List ℕ → ℕ → ℕ → DiskState → DiskState → VaultState → VaultState → Option (List ℕ) → Option (List ℕ) → ℕ → Type 0
RestAfter {props} {old} worked same user path from count backup backup' copies copies' written now status =
    CannotOpenCopies same backup backup' [] worked.history written now status
    ⊎ ((opened : ReadsOpened AddsEvent props.sizes.batch user path from count backup backup' [] worked.history copies copies' written now status)
    × (Tells old → Wrote (last_world worked).keys.keys.table.rows path from count copies written opened.how opened.body opened.names))

-- the logs of the first cluster were opened, and what came then
pub record CopyOnDisks (same : Type 0) (props : Props) (user path : List ℕ) (from count : ℕ) (old new backup backup' : DiskState) (words words' : ℕ → ℕ) (copies copies' : VaultState) (written now : Option (List ℕ)) (status : ℕ) : Type 0 where
  pub worked : Worked props old new words words'
  pub rest : RestAfter worked same user path from count backup backup' copies copies' written now status

-- `same_backup` says that the disk of the second namesystem is unchanged, and `same` that the vault, the random words and the clock are
abbrev pub CopyUnder : Props → Type 0 → Type 0 → List ℕ → List ℕ → ℕ → ℕ → DiskState → DiskState → DiskState → DiskState → (ℕ → ℕ) → (ℕ → ℕ) → VaultState → VaultState → Option (List ℕ) → Option (List ℕ) → ℕ → Type 0
CopyUnder props same_backup same user path from count old new backup backup' words words' copies copies' written now status =
    CannotOpen (same_backup × same) old new written now status ⊎ CopyOnDisks same props user path from count old new backup backup' words words' copies copies' written now status

pub record CopyWith (same_backup same : Type 0) (user path : List ℕ) (from count : ℕ) (old new backup backup' : DiskState) (acls acls' : Option (List ℕ)) (words words' : ℕ → ℕ) (copies copies' : VaultState) (written now : Option (List ℕ)) (status : ℕ) : Type 0 where
  pub props : Props
  pub read : ReadsProperties acls acls' props
  pub range : CopyUnder props same_backup same user path from count old new backup backup' words words' copies copies' written now status

-- the properties were read first; `same_disk` says that the first disk is unchanged
abbrev pub ReadsCopyFile : Type 0 → Type 0 → Type 0 → List ℕ → List ℕ → ℕ → ℕ → DiskState → DiskState → DiskState → DiskState → Option (List ℕ) → Option (List ℕ) → (ℕ → ℕ) → (ℕ → ℕ) → VaultState → VaultState → Option (List ℕ) → Option (List ℕ) → ℕ → Type 0
ReadsCopyFile same_disk same_backup same user path from count old new backup backup' acls acls' words words' copies copies' written now status =
    RefusesProperties (same_disk × (same_backup × same)) acls written now status ⊎ CopyWith same_backup same user path from count old new backup backup' acls acls' words words' copies copies' written now status

-- ---- what is kept

-- The logs of the first cluster were opened, and the history of the events keeps the promise.
pub record ReadCopyKept (past : Past) (same : Type 0) (user path : List ℕ) (from count : ℕ) (old new backup backup' : DiskState) (acls acls' : Option (List ℕ)) (words words' : ℕ → ℕ) (copies copies' : VaultState) (written now : Option (List ℕ)) (status : ℕ) : Type 0 where
  pub props : Props
  pub read : ReadsProperties acls acls' props
  pub range : CopyOnDisks same props user path from count old new backup backup' words words' copies copies' written now status
  pub keeps : Headline past props.lines old new words (world_before range.worked) range.worked.history
