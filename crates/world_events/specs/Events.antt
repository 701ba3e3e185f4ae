-- Events of both services over a disk.
use Rattle.std.specs.Prelude.{◌≡◌, ℕ, List}
use Rattle.hk_base.specs.Disk.{DiskState}
use Rattle.hk_events.specs.declared.event.Event.{Event}
use Rattle.hk_events.specs.declared.event.Line.{Line}
use Rattle.kms_acls.specs.Agreement.{AreListsOf}
use Rattle.prop_text.specs.declared.lines.PropLine.{PropLine}
use Rattle.world_run.specs.Drives.{Leads, Standing}
use Rattle.world_events.specs.declared.events.WorldEvents.{WorldEvents}

-- under any lines that have the lists of the services, an event happens at this moment, with this answer
abbrev pub LeadsAt : {D W : Type 0} → (D → DiskState) → (W → ℕ → ℕ) → ℕ → Standing D W → Event → Line → Standing D W → Type 0
LeadsAt state to_come now a e answer b = (lines : List PropLine) → AreListsOf a.world.keys.acls lines → Leads state to_come lines now a e answer b

-- the services that events hold
abbrev pub standing_of : {D W : Type 0} → WorldEvents D W → Standing D W
standing_of events = record { disk = events.disk.now; world = events.world.now; words = events.words.now }

-- events still hold what the others held, at the same time
abbrev pub HoldsSame : {D W : Type 0} → WorldEvents D W → WorldEvents D W → Type 0
HoldsSame old new = (new.world.ghost_name ≡ old.world.ghost_name) × ((new.disk.ghost_name ≡ old.disk.ghost_name) × ((new.words.ghost_name ≡ old.words.ghost_name) × (new.now ≡ old.now)))
