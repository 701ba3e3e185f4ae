-- Why a copy of a place is refused.
use Rattle.std.specs.Prelude.{◌≡◌, ◌⊎◌, ℕ, false, List, [], Some, None, Result, Err, IfErr, ⊤}
use Rattle.hk_base.specs.Disk.{DiskState}
use Rattle.hk_base.specs.declared.names.KeyName.{KeyName}
use Rattle.hk_base.specs.declared.texts.Text.{Text}
use Rattle.body_stream.specs.Vaults.{VaultState}
use Rattle.copy_target.specs.Targets.{PartsRefuse, TargetRefuses}
use Rattle.file_orders.specs.Events.{Leading}
use Rattle.file_orders.specs.declared.ends.FsEnd.{FsEnd}
use Rattle.file_orders.specs.declared.ends.FsEnd.TheVariants as end
use Rattle.hk_events.specs.declared.event.Event.{Event}
use Rattle.hk_events.specs.declared.event.Event.TheVariants as event
use Rattle.hk_events.specs.declared.event.Line.{Line}
use Rattle.hk_events.specs.declared.event.Line.TheVariants as line
use Rattle.inode_tree.specs.Rows.{Entry, is_dir, is_marked, row_at}
use Rattle.inode_tree.specs.declared.rows.Row.{Row}
use Rattle.kms_calls.specs.declared.calls.KmsCall.TheVariants as call
use Rattle.kms_calls.specs.declared.calls.KmsReply.{KmsReply}
use Rattle.name_calls.specs.Paths.{read_path}
use Rattle.name_calls.specs.declared.calls.NameRefusal.TheVariants as refusal
use Rattle.name_calls.specs.declared.paths.NPath.{NPath}
use Rattle.name_calls.specs.declared.paths.PathFault.{PathFault}
use Rattle.name_calls.specs.declared.paths.PathFault.TheVariants as fault
use Rattle.name_calls.specs.declared.read_paths.ReadPath.{ReadPath}
use Rattle.name_core.specs.Calls.{superuser}
use Rattle.name_core.specs.Service.{Starts}
use Rattle.name_core.specs.State.{RunningNames}
use Rattle.name_store.specs.Table.{NameTable}
use Rattle.place_texts.specs.Places.{read_raw_place}
use Rattle.row_copies.specs.Clusters.{CopyState, EndsFor}
use Rattle.row_copies.specs.Copies.{ChainOf, RuleRefuses}
use Rattle.row_copies.specs.declared.walk.Copied.{Copied}
use Rattle.raw_copy.specs.declared.backup.CopyFault.{CopyFault}
use Rattle.raw_copy.specs.declared.backup.CopyFault.TheVariants.{End}
use Rattle.world_events.specs.Events.{LeadsAt, standing_of}
use Rattle.world_rows.specs.Rows.{IsReadEvent, ShowsRefused, place_rows}
use Rattle.world_rows.specs.declared.rows.WorldRows.{WorldRows}
use Rattle.raw_copy.specs.Copies.{AreTexts, Copying, ReadsOnceIn, copying, state_at}

-- if a copy that ends so was refused, there is this cause
abbrev pub RefusedFor : (FsEnd → Type 0) → FsEnd → Type 0
RefusedFor refused why = EndsFor ⊤ ⊤ refused why

-- if this failed with a refusal, there is this cause
abbrev pub EndsBy : {T : Type 0} → Result T FsEnd → (FsEnd → Type 0) → Type 0
EndsBy result refused = IfErr result (RefusedFor refused)

-- if the copy failed with one
abbrev pub CopyEndsBy : Result Copied CopyFault → (FsEnd → Type 0) → Type 0
CopyEndsBy result refused = (why : FsEnd) → result ≡ Err (End why) → RefusedFor refused why

-- ---- the last step

-- after steps, the source refused, or the namesystem that gets the copy did; or a rule refuses the copy by what was there in the beginning
abbrev pub IntoRefused : {S E : Type 0} → (S → S → Type 0) → (S → S → FsEnd → Type 0) → (S → KeyName → KmsReply → S → Type 0) → (E → DiskState) → (user : Text) (to : List (List ℕ)) (s : CopyState) (source source' : S) (old new : E) (r r' : RunningNames) → FsEnd → Type 0
IntoRefused {S} follows refuses replies disk user to s source source' old new r r' why = RuleRefuses to s why ⊎ ((mid : S) × ChainOf follows source mid × PartsRefuse refuses replies disk user mid source' old new r r' why)

-- an event that reads was answered by a refusal
abbrev pub ReadRefusedIn : {Y : Type 0} → Leading Y → Y → Y → FsEnd → Type 0
ReadRefusedIn others y z why = (e : Event) × (answer : Line) × IsReadEvent e × others y e answer z × ShowsRefused answer why

-- this was the reply to the superuser's call for the metadata of a key
abbrev pub KeyToldIn : {Y : Type 0} → Leading Y → Y → Y → KmsReply → Type 0
KeyToldIn others y z reply = (key : KeyName) × others y (event.Kms superuser (call.Metadata key)) (line.Kms reply) z

-- After events that read, one was refused; or the namesystem that gets the copy refused an order.
abbrev pub StepRefused : {Y E : Type 0} → Leading Y → (E → DiskState) → (user : Text) (y z : Y) (old new : E) (r r' : RunningNames) → FsEnd → Type 0
StepRefused {Y} others disk user y z old new r r' why = (mid : Y) × ChainOf (ReadsOnceIn others) y mid × (ReadRefusedIn others mid z why ⊎ TargetRefuses disk user (KeyToldIn others mid z) old new r r' why)

-- ---- a place

-- the rows of a place were copied as this user
abbrev pub SeenRefused : {D W E : Type 0} → (D → DiskState) → (W → ℕ → ℕ) → (E → DiskState) → (user : Text) (to : List (List ℕ)) (s : CopyState) (source source' : WorldRows D W) (old new : E) (r r' : RunningNames) → FsEnd → Type 0
SeenRefused state to_come disk user to s source source' old new r r' why =
    RuleRefuses to s why ⊎ StepRefused (LeadsAt state to_come source.events.now) disk user (standing_of source.events) (standing_of source'.events) old new r r' why

-- the same as the superuser
abbrev pub RowsRefused : {Y E : Type 0} → Leading Y → (E → DiskState) → (place : ReadPath) (path : NPath) (c : Copying) (y z : Y) (old new : E) (r' : RunningNames) → FsEnd → Type 0
RowsRefused others disk place path c y z old new r' why = RuleRefuses path (state_at place c) why ⊎ StepRefused others disk superuser y z old new c.names r' why

-- the row is that of a directory without a mark, or of a file
abbrev pub IsNoZoneRow : Row → FsEnd → Type 0
IsNoZoneRow row why = ((why ≡ end.NameRefused refusal.NotAZoneRoot) × (is_marked row ≡ false)) ⊎ ((why ≡ end.NameRefused refusal.NotADirectory) × (is_dir row.kind ≡ false))

-- the first of the rows is such a one
abbrev pub IsNoZone : List Entry → FsEnd → Type 0
IsNoZone rows why = (row : Row) × (row_at rows [] ≡ Some row) × IsNoZoneRow row why

abbrev pub CheckRefused : {Y : Type 0} → Leading Y → List Entry → (y z : Y) → FsEnd → Type 0
CheckRefused others rows y z why = IsNoZone rows why ⊎ ReadRefusedIn others y z why

-- The place is no encryption zone, or the copy of its rows was refused.
abbrev pub PlaceRefused : {Y E : Type 0} → Leading Y → (E → DiskState) → (place : ReadPath) (path : NPath) (c : Copying) (y z : Y) (old new : E) (r' : RunningNames) → FsEnd → Type 0
PlaceRefused others disk place path c y z old new r' why = IsNoZone (place_rows c.table place) why ⊎ RowsRefused others disk place path c y z old new r' why

-- ---- the texts

abbrev pub end_of_path : PathFault → FsEnd
end_of_path fault.BadPath = end.NameRefused refusal.BadPath
end_of_path fault.NoMemory = end.NoMemory

abbrev pub BadPathFor : Type 0 → FsEnd → Type 0
BadPathFor none why = (why ≡ end.NameRefused refusal.BadPath) × none

-- allocation failed, or there is no such path
abbrev pub NotRead : Type 0 → FsEnd → Type 0
NotRead none why = (why ≡ end.NoMemory) ⊎ BadPathFor none why

-- one of the texts is not that of a place, or of a path
abbrev pub AreNoTexts : List ℕ → List ℕ → Type 0
AreNoTexts from to = (read_raw_place from ≡ None) ⊎ (read_path to ≡ None)

-- The copy of the place that has this text to the path that has that one was refused.
abbrev pub ZoneRefused : {Y E : Type 0} → Leading Y → (E → DiskState) → (from to : List ℕ) (c : Copying) (y z : Y) (old new : E) (r' : RunningNames) → FsEnd → Type 0
ZoneRefused others disk from to c y z old new r' why =
    BadPathFor (AreNoTexts from to) why ⊎ ((place : ReadPath) × (path : NPath) × AreTexts from to place path × PlaceRefused others disk place path c y z old new r' why)

abbrev pub FromRefused : {Y E : Type 0} → Leading Y → (E → DiskState) → (from to : List ℕ) (c : Copying) (y z : Y) (old new : E) → FsEnd → Type 0
FromRefused others disk from to c y z old new why = (left : RunningNames) × ZoneRefused others disk from to c y z old new left why

-- The edit log of the other cluster was opened, and the copy into its namesystem was refused.
pub record OverRefused {Y E : Type 0} (others : Leading Y) (disk : E → DiskState) (batch : ℕ) (from to : List ℕ) (t : NameTable) (vault copies : VaultState) (y z : Y) (old new : E) (why : FsEnd) : Type 0 where
  pub opened : E
  pub names : RunningNames
  pub starts : Starts batch (disk old) (disk opened) names
  pub refused : FromRefused others disk from to (copying t vault names copies) y z opened new why
