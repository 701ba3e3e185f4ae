-- Properties of the batches of re-encryptions in a linked world.
use Rattle.std.specs.Prelude.{◌≡◌, ◌≤◌, ℕ, Bool, false, Ok, Result, Some, slice_get}
use Rattle.name_calls.specs.declared.calls.NameRefusal.{NameRefusal}
use Rattle.name_calls.specs.declared.status.Delivered.{Delivered}
use Rattle.name_calls.specs.declared.status.Delivered.TheVariants.{Applied, Ignored}
use Rattle.reenc_walk.specs.declared.batches.WalkedBatch.{WalkedBatch}
use Rattle.reenc_walk.specs.declared.sent.BatchNote.{BatchNote}
use Rattle.zone_table.specs.declared.statuses.StatusRow.{StatusRow}
use Rattle.name_core.specs.Laws.{IsUpdateOf, batches_of}
use Rattle.name_core.specs.State.{NameState, settled}
use Rattle.name_core.specs.Updates.{UpdateDeed, last_session}
use Rattle.name_core.specs.Updating.{NameUpdates}
use Rattle.name_core.specs.Walks.{walk_of}
use Rattle.world_run.specs.Covered.{ids_sent}
use Rattle.world_run.specs.Ledger.{Hidden}
use Rattle.world_run.specs.Linked.{LinkedWorld}
use Rattle.world_run.specs.Promise.{In}
use Rattle.world_run.specs.World.{WorldState}

-- Two batches of a zone share no file: if one was sent in both, they are one. The walk of a re-encryption that goes on has its batches
-- from the earliest outstanding one on.
abbrev pub BatchesShareNoFile : Type 0
BatchesShareNoFile =
    (w : WorldState) (h : Hidden) (kept : Bool) (s : StatusRow) (i j id : ℕ) (b c : WalkedBatch)
    → LinkedWorld w h → In s (settled kept w.names).table.statuses → s.completed ≡ false
    → slice_get (walk_of (settled kept w.names).walks s).batches i ≡ Some b → slice_get (walk_of (settled kept w.names).walks s).batches j ≡ Some c
    → In id (ids_sent b.sent) → In id (ids_sent c.sent) → i ≡ j

-- So no batch is outstanding twice.
abbrev pub BatchesAreOnce : Type 0
BatchesAreOnce = (w : WorldState) (h : Hidden) (kept : Bool) (note : BatchNote) → LinkedWorld w h → batches_of (settled kept w.names) note ≤ 1

-- A delivery or a giving up that comes again after it was applied is ignored, and changes nothing.
abbrev pub RepeatedIsIgnored : Type 0
RepeatedIsIgnored =
    (w : WorldState) (h : Hidden) (kept : Bool) (note : BatchNote) (d d' : NameState → UpdateDeed) (changed skipped failed : ℕ) (s' : NameState) (answer : Result Delivered NameRefusal) (s'' : NameState)
    → LinkedWorld w h → IsUpdateOf note d → IsUpdateOf note d' → NameUpdates (settled kept w.names) d (Ok (Applied changed skipped failed)) s' → NameUpdates s' d' answer s''
    → (answer ≡ Ok (Ignored (last_session s' note.zone))) × (s'' ≡ s')
