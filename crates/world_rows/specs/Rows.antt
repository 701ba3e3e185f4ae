-- The rows at and below a place of a world, and the events that read them.
use Rattle.std.specs.Prelude.{◌≡◌, ◌⊎◌, ℕ, true, List, Option, None, Some, ⊤}
use Rattle.hk_base.specs.Disk.{DiskState}
use Rattle.hk_base.specs.declared.names.KeyName.{KeyName}
use Rattle.hk_events.specs.declared.event.Event.{Event}
use Rattle.hk_events.specs.declared.event.Event.TheVariants as event
use Rattle.hk_events.specs.declared.event.Line.{Line}
use Rattle.hk_events.specs.declared.event.Line.TheVariants as line
use Rattle.file_orders.specs.Ends.{end_of_names}
use Rattle.file_orders.specs.declared.ends.FsEnd.{FsEnd}
use Rattle.inode_tree.specs.Below.{rows_below}
use Rattle.inode_tree.specs.Rows.{Entry}
use Rattle.kms_calls.specs.declared.calls.KmsCall.{KmsCall}
use Rattle.kms_calls.specs.declared.calls.KmsCall.TheVariants as call
use Rattle.kms_calls.specs.declared.calls.KmsReply.{KmsReply}
use Rattle.name_calls.specs.declared.calls.NameRefusal.{NameRefusal}
use Rattle.name_calls.specs.declared.calls.NameReply.TheVariants as reply
use Rattle.name_calls.specs.declared.paths.NPath.{NPath}
use Rattle.name_calls.specs.declared.read_paths.ReadPath.{ReadPath}
use Rattle.name_calls.specs.declared.read_paths.SnapPart.{SnapPart}
use Rattle.name_core.specs.Calls.{superuser}
use Rattle.name_core.specs.Reads.{snapshot_rows}
use Rattle.name_store.specs.Table.{NameTable}
use Rattle.place_texts.specs.Places.{IsRuled, is_whole_snapshot}
use Rattle.row_copies.specs.Clusters.{IsTreeOfRows}
use Rattle.world_desk.specs.Worlds.{IsDeskReady}
use Rattle.world_run.specs.World.{RunningWorld}
use Rattle.world_events.specs.Events.{HoldsSame, LeadsAt, standing_of}
use Rattle.world_run.specs.Drives.{Standing}
use Rattle.world_rows.specs.declared.rows.WorldRows.{WorldRows}

-- the rows at and below a directory, as they are or as they were in a snapshot of it, seen from it
abbrev pub rows_of_place : NameTable → NPath → Option SnapPart → List Entry
rows_of_place t path None = rows_below t.rows path
rows_of_place t path (Some part) = snapshot_rows t path part.name

abbrev pub place_rows : NameTable → ReadPath → List Entry
place_rows t place = rows_of_place t place.path place.snapshot

-- the place is a directory or a snapshot of one, by the rule of paths
pub record IsPlace (place : ReadPath) : Type 0 where
  pub ruled : IsRuled place
  pub whole : is_whole_snapshot place.snapshot ≡ true

-- The event reads entries, or the metadata of a key, as the superuser. It needs no data encryption key.

abbrev pub AsksMetadata : KmsCall → Type 0
AsksMetadata (call.Metadata name) = ⊤
AsksMetadata _ = ⊥

abbrev pub IsReadEvent : Event → Type 0
IsReadEvent (event.Info user path) = user ≡ superuser
IsReadEvent (event.List user path) = user ≡ superuser
IsReadEvent (event.Kms user c) = (user ≡ superuser) × AsksMetadata c
IsReadEvent _ = ⊥

-- such an event happened, or none
abbrev pub ReadsOnce : {D W : Type 0} → (D → DiskState) → (W → ℕ → ℕ) → ℕ → Standing D W → Standing D W → Type 0
ReadsOnce state to_come now a b = (b ≡ a) ⊎ ((e : Event) × (answer : Line) × IsReadEvent e × LeadsAt state to_come now a e answer b)

-- the names of a world
abbrev pub table_of : RunningWorld → NameTable
table_of world = world.names.store.table

abbrev pub rows_seen : {D W : Type 0} → WorldRows D W → List Entry
rows_seen v = place_rows (table_of v.events.world.now) v.place.now

-- the services are ready for events, and the rows of the place are a tree
pub record CanRead {D W : Type 0} (state : D → DiskState) (v : WorldRows D W) : Type 0 where
  pub events : IsDeskReady state (standing_of v.events)
  pub user : v.user.now ≡ superuser
  pub place : IsPlace v.place.now
  pub tree : IsTreeOfRows (rows_seen v)

-- the same services, and the same place in them
pub record ReadsOn {D W : Type 0} (state : D → DiskState) (to_come : W → ℕ → ℕ) (old new : WorldRows D W) : Type 0 where
  pub holds : HoldsSame old.events new.events
  pub place : new.place.now ≡ old.place.now
  pub reads : ReadsOnce state to_come old.events.now (standing_of old.events) (standing_of new.events)

-- the superuser asked for the metadata of a key by an event, and this was the reply
abbrev pub RepliesTo : {D W : Type 0} → (D → DiskState) → (W → ℕ → ℕ) → WorldRows D W → KeyName → KmsReply → WorldRows D W → Type 0
RepliesTo state to_come old key given new =
    LeadsAt state to_come old.events.now (standing_of old.events) (event.Kms superuser (call.Metadata key)) (line.Kms given) (standing_of new.events)

-- the answer is a refusal of the namesystem, and the end is that by it
pub record ShowsRefused (answer : Line) (why : FsEnd) : Type 0 where
  pub own : NameRefusal
  pub answer_is : answer ≡ line.Name (reply.Refused own)
  pub why_is : why ≡ end_of_names own

-- An event that reads was answered by a refusal.
abbrev pub EventRefused : {D W : Type 0} → (D → DiskState) → (W → ℕ → ℕ) → ℕ → Standing D W → Standing D W → FsEnd → Type 0
EventRefused state to_come now a b why = (e : Event) × (answer : Line) × IsReadEvent e × LeadsAt state to_come now a e answer b × ShowsRefused answer why

abbrev pub RefusesTo : {D W : Type 0} → (D → DiskState) → (W → ℕ → ℕ) → WorldRows D W → WorldRows D W → FsEnd → Type 0
RefusesTo state to_come old new why = EventRefused state to_come old.events.now (standing_of old.events) (standing_of new.events) why
