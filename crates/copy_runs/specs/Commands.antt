-- The properties are read, the logs of both clusters are opened, and then an encryption zone is copied.
use Rattle.std.specs.Prelude.{◌≡◌, ◌⊎◌, ℕ, List, [], Option, Result, Ok, Err}
use Rattle.std.specs.List.{AllByRecursion}
use Rattle.hk_base.specs.Disk.{DiskState}
use Rattle.body_stream.specs.Vaults.{VaultState}
use Rattle.file_orders.specs.Events.{Leading}
use Rattle.file_orders.specs.declared.ends.FsEnd.{FsEnd}
use Rattle.name_store.specs.Table.{NameTable}
use Rattle.prop_text.specs.declared.props.Props.{Props}
use Rattle.command_io.specs.Properties.{ReadsProperties}
use Rattle.world_run.specs.Drives.{Standing}
use Rattle.world_run.specs.Ledger.{Past}
use Rattle.world_run.specs.World.{WorldState}
use Rattle.world_events.specs.Events.{LeadsAt}
use Rattle.world_rows.specs.Rows.{IsReadEvent, table_of}
use Rattle.row_copies.specs.declared.walk.Copied.{Copied}
use Rattle.raw_copy.specs.declared.backup.CopyFault.{CopyFault}
use Rattle.raw_copy.specs.declared.backup.CopyFault.TheVariants.{End, Start}
use Rattle.raw_copy.specs.Copies.{CopiesOver, OnlyRead}
use Rattle.raw_copy.specs.Refusals.{OverRefused, RefusedFor}
use Rattle.hk_runs.specs.Headline.{Headline}
use Rattle.hk_runs.specs.Run.{Happened, History, drawn_in, world_after}
use Rattle.data_stream.specs.Commands.{CannotOpen, RefusesProperties}
use Rattle.data_stream.specs.Ends.{ClosesWith}
use Rattle.data_stream.specs.Runs.{AddsEvent, Worked, last_world, world_before}
use Rattle.copy_ends.specs.Ends.{ShowsLine, copied_line, start_line, start_status}

-- ---- the events of the first cluster

-- the event reads entries, or the metadata of a key, as the superuser, at this moment
abbrev pub ReadsSourceAt : ℕ → Happened → Type 0
ReadsSourceAt now h = IsReadEvent h.event × (h.now ≡ now)

-- All events of a history only read, at one moment. No random word was drawn, and the world is as it was.
pub record OnlyReadIn (now : ℕ) (first : WorldState) (history : History) : Type 0 where
  pub events : AllByRecursion (ReadsSourceAt now) history
  pub drawn : drawn_in history ≡ 0
  pub same : world_after first history ≡ first

-- the names of a world
abbrev pub table_in : WorldState → NameTable
table_in w = w.names.names.table

-- if a copy was refused, it was by one of these
abbrev pub CopyRunRefused : {Y E : Type 0} → Leading Y → (E → DiskState) → ℕ → (from to : List ℕ) → Result Copied CopyFault → NameTable → (vault copies : VaultState) (y z : Y) (backup backup' : E) → Type 0
CopyRunRefused others disk batch from to ended t vault copies y z backup backup' = (why : FsEnd) → ended ≡ Err (End why) → RefusedFor (OverRefused others disk batch from to t vault copies y z backup backup') why

-- Events of a world that only read happened, at some moment, and a zone of it was copied. `batch` is the size of batches of the namesystem
-- that gets the copy.
abbrev pub CopiesFromWorld : {D W E : Type 0} → (D → DiskState) → (W → ℕ → ℕ) → (E → DiskState) → Standing D W → Standing D W → ℕ → (from to : List ℕ) → Result Copied CopyFault
    → (backup backup' : E) (vault vault' copies copies' : VaultState) → Type 0
CopiesFromWorld state to_come disk a b batch from to ended backup backup' vault vault' copies copies' =
    (moment : ℕ) × OnlyRead state to_come moment a b × CopiesOver batch from to ended (table_of a.world) (table_of b.world) vault vault' copies copies' (disk backup) (disk backup')
    × CopyRunRefused (LeadsAt state to_come moment) disk batch from to ended (table_of a.world) vault copies a b backup backup'

-- ---- the last line

-- the last line and the status of a copy that ended so
abbrev pub ClosesCopy : Result Copied CopyFault → Option (List ℕ) → Option (List ℕ) → ℕ → Type 0
ClosesCopy (Ok counts) written now status = ShowsLine (copied_line counts) 0 written now status
ClosesCopy (Err (Start fault)) written now status = ShowsLine (start_line fault) (start_status fault) written now status
ClosesCopy (Err (End how)) written now status = ClosesWith how written now status

-- ---- both

-- The logs of the first cluster were opened, and events of it happened that only read. The log of the second was opened, and the zone was
-- copied from the one to the other: `ended` says how.
pub record CopiesOnDisks {E : Type 0} (disk : E → DiskState) (props : Props) (from to : List ℕ) (old new : DiskState) (backup backup' : E) (words words' : ℕ → ℕ) (vault vault' copies copies' : VaultState) (written now : Option (List ℕ)) (status : ℕ) : Type 0 where
  pub worked : Worked props old new words words'
  -- the time of the events
  pub moment : ℕ
  pub reads : OnlyReadIn moment (world_before worked) worked.history
  pub ended : Result Copied CopyFault
  pub copied : CopiesOver props.sizes.batch from to ended (table_in (world_before worked)) (table_in (last_world worked)) vault vault' copies copies' (disk backup) (disk backup')
  -- the newest event of the history was refused, or the other cluster refused, or a rule did
  pub refused : CopyRunRefused (AddsEvent moment) disk props.sizes.batch from to ended (table_in (world_before worked)) vault copies [] worked.history backup backup'
  pub closes : ClosesCopy ended written now status
  -- with status 0 all was copied
  pub whole : status ≡ 0 → (counts : Copied) × (ended ≡ Ok counts)

-- `same` says that the disk of the second cluster, both vaults, the random words and the clock are unchanged
abbrev pub CopiesUnder : {E : Type 0} → (E → DiskState) → Props → (same : Type 0) (from to : List ℕ) (old new : DiskState) (backup backup' : E) (words words' : ℕ → ℕ) (vault vault' copies copies' : VaultState) (written now : Option (List ℕ)) → ℕ → Type 0
CopiesUnder disk props same from to old new backup backup' words words' vault vault' copies copies' written now status =
    CannotOpen same old new written now status ⊎ CopiesOnDisks disk props from to old new backup backup' words words' vault vault' copies copies' written now status

pub record CopiesWith {E : Type 0} (disk : E → DiskState) (same : Type 0) (from to : List ℕ) (old new : DiskState) (backup backup' : E) (acls acls' : Option (List ℕ)) (words words' : ℕ → ℕ) (vault vault' copies copies' : VaultState) (written now : Option (List ℕ)) (status : ℕ) : Type 0 where
  pub props : Props
  pub read : ReadsProperties acls acls' props
  pub copy : CopiesUnder disk props same from to old new backup backup' words words' vault vault' copies copies' written now status

-- the properties were read first; `same_disk` says that the first disk is unchanged
abbrev pub CopiesByFile : {E : Type 0} → (E → DiskState) → (same_disk same : Type 0) (from to : List ℕ) (old new : DiskState) (backup backup' : E) (acls acls' : Option (List ℕ)) (words words' : ℕ → ℕ) (vault vault' copies copies' : VaultState) (written now : Option (List ℕ)) → ℕ → Type 0
CopiesByFile disk same_disk same from to old new backup backup' acls acls' words words' vault vault' copies copies' written now status =
    RefusesProperties (same_disk × same) acls written now status ⊎ CopiesWith disk same from to old new backup backup' acls acls' words words' vault vault' copies copies' written now status

-- ---- what is kept

-- The logs of the first cluster were opened, and the history of the events keeps the promise.
pub record CopyKept {E : Type 0} (disk : E → DiskState) (past : Past) (from to : List ℕ) (old new : DiskState) (backup backup' : E) (acls acls' : Option (List ℕ)) (words words' : ℕ → ℕ) (vault vault' copies copies' : VaultState) (written now : Option (List ℕ)) (status : ℕ) : Type 0 where
  pub props : Props
  pub read : ReadsProperties acls acls' props
  pub copy : CopiesOnDisks disk props from to old new backup backup' words words' vault vault' copies copies' written now status
  pub keeps : Headline past props.lines old new words (world_before copy.worked) copy.worked.history
