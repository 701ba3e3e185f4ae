-- Properties of a run of events of both services.
use Rattle.std.specs.Prelude.{◌≡◌, ℕ, Bool, true, List, [], ◌∷◌, Option, None, Some, IfSome}
use Rattle.std.specs.Option.{option_map}
use Rattle.name_calls.specs.Paths.{read_path}
use Rattle.name_calls.specs.ReadPaths.{read_any_path}
use Rattle.snap_store.specs.Snapshots.{Snapshot, snapshot_named}
use Rattle.kms_calls.specs.declared.calls.KmsReply.{KmsReply}
use Rattle.prop_text.specs.declared.lines.PropLine.{PropLine}
use Rattle.kms_core.specs.State.{IsService}
use Rattle.name_calls.specs.declared.calls.Ask.{Ask}
use Rattle.name_calls.specs.declared.calls.Ask.TheVariants as ask
use Rattle.name_calls.specs.declared.calls.AskNote.{AskNote}
use Rattle.name_calls.specs.declared.calls.NameCall.{NameCall}
use Rattle.name_calls.specs.declared.calls.NameCall.TheVariants as call
use Rattle.name_calls.specs.declared.calls.NameRefusal.TheVariants as refusal
use Rattle.name_core.specs.State.{IsNames, NameService, settled}
use Rattle.name_core.specs.Asks.{is_other_zone, ask_opened}
use Rattle.name_core.specs.Laws.{AnyFault, IsNotCalled}
use Rattle.hk_events.specs.declared.event.Event.{Event}
use Rattle.hk_events.specs.declared.event.Event.TheVariants as event
use Rattle.hk_events.specs.declared.event.Line.{Line}
use Rattle.hk_events.specs.declared.event.Line.TheVariants as line
use Rattle.world_run.specs.Acknowledged.{Acknowledged}
use Rattle.world_run.specs.RenamePaths.{read_rename_paths, rename_along}
use Rattle.world_run.specs.SnapPaths.{read_snap_path, snap_at, unsnap_at}
use Rattle.world_run.specs.Step.{Step, delete_with, zone_with}
use Rattle.world_run.specs.World.{WorldState}
use Rattle.run_laws.specs.Names.{KeepZones}

-- a restart finds what the log is known to hold
abbrev pub DiskTells : Type 0
DiskTells = Unit {0}

-- From w, an event may get this answer and leave w': under the properties of some lines, with some words to come, at some moment. A
-- store fault may come at any time.
pub record HappensIn (w : WorldState) (e : Event) (result : Line) (w' : WorldState) : Type 0 where
  pub lines : List PropLine
  pub words : ℕ → ℕ
  pub now : ℕ
  pub drawn : ℕ
  pub logged : Acknowledged
  pub step : Step lines w words now e AnyFault DiskTells result drawn logged w'

-- from w, some event may leave w'
pub record SomeHappens (w w' : WorldState) : Type 0 where
  pub event : Event
  pub reply : Line
  pub happens : HappensIn w event reply w'

-- from w, events that leave these worlds one after another lead to v
abbrev pub LeadThrough : WorldState → List WorldState → WorldState → Type 0
LeadThrough w [] v = v ≡ w
LeadThrough w (m ∷ ms) v = SomeHappens w m × LeadThrough m ms v

-- the ask that an event makes: for a file, for a zone or for a re-encryption, if its path keeps the rule of paths
abbrev pub ask_of : Event → Option Ask
ask_of (event.AskCreate user path) = option_map ask.Create (read_path path)
ask_of (event.AskZone user path key) = option_map (zone_with key) (read_path path)
ask_of (event.AskSubmit user path) = option_map ask.Submit (read_path path)
ask_of _ = None

-- The call of the namesystem that an event makes, if it makes one and what it gives can be read.
abbrev pub call_of : Event → Option NameCall
call_of (event.Mkdir user path) = option_map call.Mkdir (read_path path)
call_of (event.Delete user path recursive) = option_map (delete_with recursive) (read_path path)
call_of (event.Rename user path to) = option_map rename_along (read_rename_paths path to)
call_of (event.Info user path) = option_map call.Info (read_any_path path)
call_of (event.List user path) = option_map call.List (read_any_path path)
call_of (event.Allow user path) = option_map call.Allow (read_path path)
call_of (event.Disallow user path) = option_map call.Disallow (read_path path)
call_of (event.Snap user path name) = option_map snap_at (read_snap_path path name)
call_of (event.Unsnap user path name) = option_map unsnap_at (read_snap_path path name)
call_of (event.Cancel user path) = option_map call.Cancel (read_path path)
call_of (event.Status user path) = option_map call.Status (read_path path)
call_of (event.Zones user) = Some call.Zones
call_of _ = None

-- the call of an event does not remove the snapshot of the directory with the id that has the name
abbrev pub KeepsSnapshot : ℕ → List ℕ → WorldState → Event → Type 0
KeepsSnapshot dir name w e = IfSome (call_of e) (λ c. IsNotCalled w.names c dir name)

-- from w, such events that leave these worlds one after another lead to v
abbrev pub LeadsKeeping : ℕ → List ℕ → WorldState → List WorldState → WorldState → Type 0
LeadsKeeping dir name w [] v = v ≡ w
LeadsKeeping dir name w (m ∷ ms) v = ((h : SomeHappens w m) × KeepsSnapshot dir name w h.event) × LeadsKeeping dir name m ms v

-- the namesystem has the snapshot, whether its pending operation is kept or dropped
abbrev pub HasSnapshot : ℕ → List ℕ → Snapshot → NameService → Type 0
HasSnapshot dir name was s = (kept : Bool) → snapshot_named (settled kept s).table.snaps.taken dir name ≡ Some was

-- A snapshot stays as it is through all events that do not remove it, restarts included.
abbrev pub RunsKeepSnapshots : Type 0
RunsKeepSnapshots =
    (w : WorldState) (dir : ℕ) (name : List ℕ) (was : Snapshot) (between : List WorldState) (v : WorldState)
    → IsNames w.names → HasSnapshot dir name was w.names → LeadsKeeping dir name w between v → HasSnapshot dir name was v.names

-- As long as a file exists, it lies in the same zone, or in none: whatever events come between, restarts included, and whether pending
-- operations are kept or dropped. No id comes twice, so a file with the same id is the same file.
abbrev pub RunsKeepZones : Type 0
RunsKeepZones =
    (w : WorldState) (between : List WorldState) (v : WorldState) (kept later : Bool)
    → IsNames w.names → LeadThrough w between v → KeepZones (settled kept w.names).table.rows (settled later v.names).table.rows

-- An ask is accepted; after any events its draw is made, by the number of its note, and the reply is kept; after any events its finish
-- takes that reply. If it is refused with ZoneChanged, the zone that the path lies in is another one than when the ask was made.
abbrev pub RunsRefuseForTheZone : Type 0
RunsRefuseForTheZone =
    (w : WorldState) (e : Event) (ask : Ask) (number : ℕ) (note : AskNote) (asked : WorldState) (before_draw : List WorldState) (ready : WorldState)
    (reply_number : ℕ) (reply : Option KmsReply) (drawn : WorldState) (before_finish : List WorldState) (last refused : WorldState)
    → IsNames w.names → IsService w.keys → ask_of e ≡ Some ask → HappensIn w e (line.Asked number note) asked → LeadThrough asked before_draw ready
    → HappensIn ready (event.Draw number) (line.Replied reply_number reply) drawn → LeadThrough drawn before_finish last
    → HappensIn last (event.Finish reply_number) (line.Refused refusal.ZoneChanged) refused
    → is_other_zone refused.names.names.table.rows (ask_opened w.names.names ask) ≡ true
