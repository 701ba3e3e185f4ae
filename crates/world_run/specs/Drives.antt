-- A re-encryption that is driven to its end: the zone is walked, the call for each batch is made, and its reply is delivered.
use Rattle.std.specs.Prelude.{◌≡◌, ◌⊎◌, ℕ, zero, suc, ◌+◌, ◌*◌, ◌<◌, ⊤, Bool, List, [], ◌∷◌, length, Option, None, Some, Result, Ok, Err}
use Rattle.std.specs.Option.{option_map_or}
use Rattle.hk_base.specs.Disk.{DiskState}
use Rattle.kms_calls.specs.declared.calls.KmsReply.TheVariants as key_reply
use Rattle.hk_base.specs.Names.{Encrypted}
use Rattle.name_calls.specs.Paths.{path_text}
use Rattle.name_calls.specs.declared.calls.NameRefusal.{NameRefusal}
use Rattle.name_calls.specs.declared.calls.NameRefusal.TheVariants as refusal
use Rattle.name_calls.specs.declared.paths.NPath.{NPath}
use Rattle.name_calls.specs.declared.status.Delivered.{Delivered}
use Rattle.name_calls.specs.declared.status.Delivered.TheVariants.{Applied}
use Rattle.name_core.specs.declared.walks.Walked.{Walked}
use Rattle.name_core.specs.declared.walks.Walked.TheVariants as walk
use Rattle.name_core.specs.State.{NameState, settled}
use Rattle.name_core.specs.Walking.{NameWalks}
use Rattle.name_core.specs.Walks.{status_at, walk_of}
use Rattle.name_store.specs.Causes.{id_at}
use Rattle.prop_text.specs.declared.lines.PropLine.{PropLine}
use Rattle.reenc_walk.specs.Files.{walk_list}
use Rattle.reenc_walk.specs.Walks.{outstanding}
use Rattle.hk_events.specs.declared.event.Event.{Event}
use Rattle.hk_events.specs.declared.event.Event.TheVariants as event
use Rattle.hk_events.specs.declared.event.Line.{Line}
use Rattle.hk_events.specs.declared.event.Line.TheVariants as line
use Rattle.world_run.specs.Batches.{walk_line}
use Rattle.world_run.specs.Keeps.{Steps}
use Rattle.world_run.specs.World.{RunningWorld, WorldState, next_batch, world_of}

-- both services, with their disk and their source of random words
pub record Standing (D W : Type 0) : Type 0 where
  pub disk : D
  pub world : RunningWorld
  pub words : W

-- an event that happened: its answer, and what it left
pub record Passed (D W : Type 0) : Type 0 where
  pub event : Event
  pub answer : Line
  pub after : Standing D W

-- events one after another, the newest first
abbrev pub Course : Type 0 → Type 0 → Type 0
Course D W = List (Passed D W)

-- an event may lead from one standing to another, with this answer
abbrev pub WorldLeading : Type 0 → Type 0 → Type 1
WorldLeading D W = Standing D W → Event → Line → Standing D W → Type 0

-- it does at this moment, under the properties of these lines
abbrev pub Leads : {D W : Type 0} → (D → DiskState) → (W → ℕ → ℕ) → List PropLine → ℕ → WorldLeading D W
Leads state to_come lines now a e answer b = Steps lines (state a.disk) (state b.disk) a.world (to_come a.words) now e answer b.world (to_come b.words)

-- The event that follows an answer, in a drive of the zone whose path has these bytes: a batch is served, its reply is delivered, and
-- then the zone is walked again. After any other answer the drive ends.
abbrev pub next_event : List ℕ → Line → Option Event
next_event path (line.Batch number files) = Some (event.Serve number)
next_event path (line.Replied number reply) = Some (event.Deliver number)
next_event path (line.Delivered delivered) = Some (event.Walk path)
next_event path _ = None

-- the event that follows a course, which begins with a walk
abbrev pub event_after : {D W : Type 0} → List ℕ → Course D W → Option Event
event_after path [] = Some (event.Walk path)
event_after path (p ∷ earlier) = next_event path p.answer

-- what a course leaves
abbrev pub standing_after : {D W : Type 0} → Standing D W → Course D W → Standing D W
standing_after a [] = a
standing_after a (p ∷ earlier) = p.after

-- each event follows the answer before it, and leads on from what that left
abbrev pub IsCourse : {D W : Type 0} → WorldLeading D W → List ℕ → Standing D W → Course D W → Type 0
IsCourse leads path a [] = ⊤
IsCourse leads path a (p ∷ earlier) =
    (event_after path earlier ≡ Some p.event) × leads (standing_after a earlier) p.event p.answer p.after × IsCourse leads path a earlier

-- The result of a drive whose last answer this is: that of a walk, or a refusal. After any other answer, memory ran out for what comes
-- next.
abbrev pub result_of : Line → Result Walked NameRefusal
result_of (line.NoneLeft count) = Ok (walk.NoneLeft count)
result_of line.Completed = Ok walk.Completed
result_of (line.Refused why) = Err why
result_of _ = Err refusal.NoMemory

abbrev pub result_after : {D W : Type 0} → Course D W → Result Walked NameRefusal
result_after [] = Err refusal.NoMemory
result_after (p ∷ earlier) = result_of p.answer

-- how many batches a course took
abbrev pub add_batch : Line → ℕ → ℕ
add_batch (line.Batch number files) n = suc n
add_batch _ n = n

abbrev pub batches_in : {D W : Type 0} → Course D W → ℕ
batches_in [] = 0
batches_in (p ∷ earlier) = add_batch p.answer (batches_in earlier)

-- no file counts as failed by this delivery
abbrev pub FailsNone : Delivered → Type 0
FailsNone delivered = (changed : ℕ) × (skipped : ℕ) × (delivered ≡ Applied changed skipped 0)

-- if the first answer gives encrypted keys, no file counts as failed by the second one, which is that of the next event
abbrev pub KeysFailNone : Line → Line → Type 0
KeysFailNone replied answer =
    (number : ℕ) (keys : List Encrypted) (delivered : Delivered) → replied ≡ line.Replied number (Some (key_reply.Ready keys)) → answer ≡ line.Delivered delivered → FailsNone delivered

abbrev pub LastFailsNone : {D W : Type 0} → Line → Course D W → Type 0
LastFailsNone answer [] = ⊤
LastFailsNone answer (q ∷ earlier) = KeysFailNone q.answer answer

-- no file counts as failed, unless the call for its batch was refused
abbrev pub NoneFails : {D W : Type 0} → Course D W → Type 0
NoneFails [] = ⊤
NoneFails (p ∷ earlier) = LastFailsNone p.answer earlier × NoneFails earlier

-- what is left to do in a zone: the files after the cursor of its walk, and its outstanding batches; both 0 if it was never submitted

abbrev pub files_left : NameState → NPath → ℕ
files_left s zone = option_map_or (λ st. length (walk_list s.table.rows (id_at s.table.rows zone) (walk_of s.walks st).cursor)) (status_at s.table zone) 0

abbrev pub outstanding_in : NameState → NPath → ℕ
outstanding_in s zone = option_map_or (λ st. outstanding (walk_of s.walks st).batches) (status_at s.table zone) 0

-- A drive that isn't refused ends with the number of batches that were outstanding before it, or completes the re-encryption if there
-- were none.

abbrev pub last_walk : ℕ → Walked
last_walk zero = walk.Completed
last_walk (suc n) = walk.NoneLeft (suc n)

abbrev pub EndsAs : ℕ → Result Walked NameRefusal → Type 0
EndsAs count result = (result ≡ Ok (last_walk count)) ⊎ ((why : NameRefusal) × (result ≡ Err why))

-- A walk settled the pending operation so, kept or dropped, and walked. Nothing is pending afterwards.
pub record SettlesAndWalks (kept : Bool) (w : WorldState) (zone : NPath) (answer : Line) (w' : WorldState) : Type 0 where
  pub walked : Walked
  pub answer_is : answer ≡ walk_line (Ok walked) (next_batch w)
  pub walks : NameWalks (settled kept w.names) zone (Ok walked) w'.names.names
  pub none_pending : w'.names.pending ≡ None

-- or it was refused, and the drive ends with it
abbrev pub FirstWalks : Bool → WorldState → NPath → Line → WorldState → Type 0
FirstWalks kept w zone answer w' = SettlesAndWalks kept w zone answer w' ⊎ ((why : NameRefusal) × (answer ≡ line.Refused why))

-- the first event of the course did so
abbrev pub FirstSettles : {D W : Type 0} → Bool → NPath → Standing D W → Course D W → Type 0
FirstSettles kept zone a [] = ⊤
FirstSettles kept zone a (p ∷ []) = FirstWalks kept (world_of a.world) zone p.answer (world_of p.after.world)
FirstSettles kept zone a (p ∷ q ∷ earlier) = FirstSettles kept zone a (q ∷ earlier)

-- A zone was driven from one standing to another. What is left to do at its beginning is counted after the first walk has settled the
-- pending operation: kept or dropped.
pub record Drives {D W : Type 0} (state : D → DiskState) (to_come : W → ℕ → ℕ) (lines : List PropLine) (now : ℕ) (zone : NPath) (a : Standing D W) (result : Result Walked NameRefusal) (b : Standing D W) : Type 0 where
  pub course : Course D W
  pub is_course : IsCourse (Leads state to_come lines now) (path_text zone) a course
  pub last : standing_after a course ≡ b
  pub result_is : result ≡ result_after course
  pub none_fails : NoneFails course
  pub kept : Bool
  pub first : FirstSettles kept zone a course
  -- no more batches were taken than the files left fill
  pub few : batches_in course * a.world.names.batch < files_left (settled kept (world_of a.world).names) zone + a.world.names.batch
  pub ends : EndsAs (outstanding_in (settled kept (world_of a.world).names) zone) result
