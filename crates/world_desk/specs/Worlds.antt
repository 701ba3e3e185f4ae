-- Both services behind a connection.
use Rattle.std.specs.Prelude.{◌≡◌, ℕ, ⊤, List, [], ◌∷◌, map, Option, None, Some, Result}
use Rattle.hk_base.specs.Disk.{DiskState}
use Rattle.hk_events.specs.declared.event.Event.{Event}
use Rattle.hk_serve.specs.Exchanges.{Stand}
use Rattle.hk_serve.specs.Transactions.{Transaction}
use Rattle.kms_acls.specs.Agreement.{AreListsOf}
use Rattle.name_calls.specs.declared.calls.NameRefusal.{NameRefusal}
use Rattle.name_calls.specs.declared.calls.NameReply.{NameReply}
use Rattle.name_calls.specs.declared.paths.NPath.{NPath}
use Rattle.name_core.specs.declared.walks.Walked.{Walked}
use Rattle.prop_text.specs.declared.lines.PropLine.{PropLine}
use Rattle.world_run.specs.Drives.{Course, Drives, Leads, Passed, Standing, WorldLeading, standing_after}
use Rattle.world_run.specs.Ready.{IsReady as IsReadyUnder}
use Rattle.world_run.specs.World.{RunningWorld}
use Rattle.world_desk.specs.declared.desk.WorldDesk.{WorldDesk}
use Rattle.world_desk.specs.Orders.{AnsweredEvent, IsOrder, IsOrderFrom, submitted}

-- both services over this disk, with these words
abbrev pub standing : {D W : Type 0} → D → RunningWorld → W → Standing D W
standing disk world words = record { disk = disk; world = world; words = words }

-- the services that a desk holds
abbrev pub standing_at : {D W C : Type 0} → WorldDesk D W C → Standing D W
standing_at desk = standing desk.disk.now desk.world.now desk.words.now

-- a desk still holds what the other held
abbrev pub HoldsSameDesk : {D W C : Type 0} → WorldDesk D W C → WorldDesk D W C → Type 0
HoldsSameDesk old new = (new.world.ghost_name ≡ old.world.ghost_name) × ((new.disk.ghost_name ≡ old.disk.ghost_name) × ((new.words.ghost_name ≡ old.words.ghost_name) × (new.clock.ghost_name ≡ old.clock.ghost_name)))

-- a connection to both services: what is ahead of it, the services, and what was written
abbrev pub connection : {D W : Type 0} → Option (List ℕ) → Standing D W → Option (List ℕ) → Stand (Standing D W)
connection ahead desk written = record { ahead = ahead; desk = desk; written = written }

-- The services are ready for orders: their lists are those of some lines, and if the disk is known, both files are their
-- logs, with some acknowledged records.
abbrev pub IsDeskReady : {D W : Type 0} → (D → DiskState) → Standing D W → Type 0
IsDeskReady state v = (lines : List PropLine) × IsReadyUnder lines (state v.disk) v.world

-- each event leads on from what the events before it left
abbrev pub LeadsOn : {D W : Type 0} → WorldLeading D W → Standing D W → Course D W → Type 0
LeadsOn leads a [] = ⊤
LeadsOn leads a (p ∷ earlier) = leads (standing_after a earlier) p.event p.answer p.after × LeadsOn leads a earlier

-- the events of a course with their answers
abbrev pub events_in : {D W : Type 0} → Course D W → List AnsweredEvent
events_in {D} {W} course = map (λ (p : Passed D W). (p.event, p.answer)) course

-- The events of an order of the namesystem that begins with this one happened one after another, and it has this reply.
pub record Carries {D W : Type 0} (leads : WorldLeading D W) (first : Event) (a : Standing D W) (given : NameReply) (b : Standing D W) : Type 0 where
  pub course : Course D W
  pub leads_on : LeadsOn leads a course
  pub last : standing_after a course ≡ b
  pub is_order : IsOrderFrom first given (events_in course)

-- the zone is driven, if there is one
abbrev pub DrivesOn : {D W : Type 0} → (D → DiskState) → (W → ℕ → ℕ) → List PropLine → ℕ → Option NPath → Standing D W → Standing D W → Type 0
DrivesOn state to_come lines now None a b = b ≡ a
DrivesOn state to_come lines now (Some zone) a b = (result : Result Walked NameRefusal) × Drives state to_come lines now zone a result b

-- The events of a transaction happened one after another, at this moment and under the properties of these lines. If a re-encryption was
-- submitted, its zone was then driven.
pub record Passes {D W : Type 0} (state : D → DiskState) (to_come : W → ℕ → ℕ) (lines : List PropLine) (now : ℕ) (v : Standing D W) (user : List ℕ) (done : Transaction) (v' : Standing D W) : Type 0 where
  pub course : Course D W
  pub leads_on : LeadsOn (Leads state to_come lines now) v course
  pub is_order : IsOrder user done (events_in course)
  pub drives_on : DrivesOn state to_come lines now (submitted done) (standing_after v course) v'

-- A transaction of a user is events of the services, all at one time, under any lines that have their lists.
pub record HappensAtDesk {D W : Type 0} (state : D → DiskState) (to_come : W → ℕ → ℕ) (v : Standing D W) (user : List ℕ) (done : Transaction) (v' : Standing D W) : Type 0 where
  pub now : ℕ
  pub passes : (lines : List PropLine) → AreListsOf v.world.keys.acls lines → Passes state to_come lines now v user done v'
