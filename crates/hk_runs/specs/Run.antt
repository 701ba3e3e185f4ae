-- A run of events: what they did, and what holds in each world on the way.
use Rattle.std.specs.Prelude.{◌⊎◌, ◌≤◌, ℕ, ◌+◌, List, [], ◌∷◌}
use Rattle.hk_base.specs.Disk.{Image}
use Rattle.hk_base.specs.Faults.{Rose}
use Rattle.prop_text.specs.declared.lines.PropLine.{PropLine}
use Rattle.hk_events.specs.declared.event.Event.{Event}
use Rattle.hk_events.specs.declared.event.Line.{Line}
use Rattle.world_run.specs.World.{WorldState}
use Rattle.world_run.specs.Acknowledged.{Acknowledged, also, nothing_acknowledged}
use Rattle.world_run.specs.Keeps.{LinkedStep, SoundFrom}
use Rattle.world_run.specs.Ledger.{Hidden, hidden_after}
use Rattle.world_run.specs.Linked.{AreDrawsApart, LinkedWorld}
use Rattle.world_run.specs.Own.{SurvivesAtRest, SurvivesEvent}
use Rattle.world_run.specs.Promise.{ZoneFilesOpen}

-- the words after the first n
abbrev pub behind : ℕ → (ℕ → ℕ) → ℕ → ℕ
behind n words k = words (n + k)

-- An event that happened: its moment, its answer, how many words it drew, the records that it had acknowledged, the world after it,
-- and the disk's count of faults then.
pub record Happened : Type 0 where
  pub event : Event
  pub now : ℕ
  pub reply : Line
  pub drawn : ℕ
  pub logged : Acknowledged
  pub world : WorldState
  pub faults : ℕ

-- events that happened one after another, the newest one first
abbrev pub History : Type 0
History = List Happened

-- what a history comes to

abbrev pub drawn_in : History → ℕ
drawn_in [] = 0
drawn_in (h ∷ earlier) = drawn_in earlier + h.drawn

-- the records acknowledged in it
abbrev pub logged_in : History → Acknowledged
logged_in [] = nothing_acknowledged
logged_in (h ∷ earlier) = also (logged_in earlier) h.logged

-- the world after it, from this one on
abbrev pub world_after : WorldState → History → WorldState
world_after first [] = first
world_after first (h ∷ earlier) = h.world

abbrev pub faults_after : ℕ → History → ℕ
faults_after before [] = before
faults_after before (h ∷ earlier) = h.faults

-- what is hidden after it, with this before it
abbrev pub hidden_in : Hidden → WorldState → (ℕ → ℕ) → History → Hidden
hidden_in before first words [] = before
hidden_in before first words (h ∷ earlier) =
    hidden_after (world_after first earlier) (behind (drawn_in earlier) words) h.event h.reply h.drawn h.world (hidden_in before first words earlier)

-- Under properties of these lines, an event happens in this world, with these words to come and this count of faults. A store fault
-- comes only if the disk's count of faults rose in the event.
pub record EventRuns (lines : List PropLine) (tells : Type 0) (w : WorldState) (words : ℕ → ℕ) (before : ℕ) (h : Happened) : Type 0 where
  pub later : before ≤ h.faults
  pub step : LinkedStep lines w words h.now h.event (Rose before h.faults) tells h.reply h.drawn h.logged h.world

-- Under properties of these lines, the events of a history happen one after another, from this world on, with these words to come and
-- this count of faults. `tells` is whether the disk tells what it holds.
abbrev pub Runs : List PropLine → Type 0 → WorldState → (ℕ → ℕ) → ℕ → History → Type 0
Runs lines tells first words before [] = Unit {0}
Runs lines tells first words before (h ∷ earlier) =
    EventRuns lines tells (world_after first earlier) (behind (drawn_in earlier) words) (faults_after before earlier) h × Runs lines tells first words before earlier

-- what is hidden beside a world that is linked, and whose zone files open
pub record IsHidden (w : WorldState) (h : Hidden) : Type 0 where
  pub linked : LinkedWorld w h
  pub files_open : ZoneFilesOpen w h

-- Each world on the way is linked with what is hidden by then, and its zone files open.
abbrev pub FilesOpenThroughout : Hidden → WorldState → (ℕ → ℕ) → History → Type 0
FilesOpenThroughout before first words [] = IsHidden first before
FilesOpenThroughout before first words (h ∷ earlier) = IsHidden h.world (hidden_in before first words (h ∷ earlier)) × FilesOpenThroughout before first words earlier

-- In each world on the way the draws by then are apart.
abbrev pub StayApart : Hidden → WorldState → (ℕ → ℕ) → History → Type 0
StayApart before first words [] = AreDrawsApart before
StayApart before first words (h ∷ earlier) = AreDrawsApart (hidden_in before first words (h ∷ earlier)) × StayApart before first words earlier

-- files that the next run may start from, with what is hidden after a history; `Before` says what may have been hidden before it
abbrev pub SoundAfter : (Hidden → Type 0) → WorldState → (ℕ → ℕ) → History → Image → Type 0
SoundAfter Before first words history image = SoundFrom Before (λ h. hidden_in h first words history) image

-- The two files are what a crash may leave at rest in the last world of a history: logs of the records acknowledged by then, those
-- before the run first, and files that the next run may start from.
abbrev pub RestsAfter : Acknowledged → (Hidden → Type 0) → WorldState → (ℕ → ℕ) → History → Image → Type 0
RestsAfter before Before first words history image =
    SurvivesAtRest (world_after first history) (also before (logged_in history)) image × SoundAfter Before first words history image

-- the same during an event after this history: logs of what was acknowledged before it, and at most one record more
abbrev pub LeftByEvent : Acknowledged → (Hidden → Type 0) → WorldState → (ℕ → ℕ) → Happened → History → Image → Type 0
LeftByEvent before Before first words h earlier image =
    SurvivesEvent (world_after first earlier) (behind (drawn_in earlier) words) h.now h.event h.reply h.world (also before (logged_in earlier)) image
    × SoundAfter Before first words (h ∷ earlier) image

-- the same in some world on the way, at rest, or during an event on the way
abbrev pub SurvivesIn : Acknowledged → (Hidden → Type 0) → WorldState → (ℕ → ℕ) → History → Image → Type 0
SurvivesIn before Before first words [] image = RestsAfter before Before first words [] image
SurvivesIn before Before first words (h ∷ earlier) image =
    RestsAfter before Before first words (h ∷ earlier) image ⊎ (LeftByEvent before Before first words h earlier image ⊎ SurvivesIn before Before first words earlier image)
