-- Tasks that were done one after another, and what is counted of them.
use Rattle.std.specs.Prelude.{◌≡◌, ℕ, ⊤, Bool, true, false, ◌||◌, List, [], ◌∷◌, ◌++◌, Option, None, Some}
use Rattle.hk_events.specs.declared.event.Event.{Event}
use Rattle.world_run.specs.Drives.{Course, Passed, Standing, WorldLeading, standing_after}
use Rattle.load_run.specs.declared.counts.Counts.{Counts}
use Rattle.load_run.specs.declared.task.Task.{Task}
use Rattle.load_run.specs.Answers.{is_refused, lacks}
use Rattle.load_run.specs.Counting.{is_good, with_answer, with_refused}
use Rattle.load_run.specs.Counts.{no_counts}
use Rattle.load_run.specs.Tasks.{first_event, next_event}

-- ---- the events of a task, the newest first

-- the event that follows these
abbrev pub event_after : {D W : Type 0} → Task → Course D W → Option Event
event_after t [] = Some (first_event t)
event_after t (p ∷ earlier) = next_event t p.answer

-- each event follows the answer before it, and leads on from what that left
abbrev pub IsCourseOf : {D W : Type 0} → WorldLeading D W → Task → Standing D W → Course D W → Type 0
IsCourseOf leads t a [] = ⊤
IsCourseOf leads t a (p ∷ earlier) =
    (event_after t earlier ≡ Some p.event) × leads (standing_after a earlier) p.event p.answer p.after × IsCourseOf leads t a earlier

-- no answer is want of memory or a store fault
abbrev pub NoneLacks : {D W : Type 0} → Course D W → Type 0
NoneLacks [] = ⊤
NoneLacks (p ∷ earlier) = (lacks p.answer ≡ false) × NoneLacks earlier

-- whether one of the events was refused
abbrev pub refused_in : {D W : Type 0} → Course D W → Bool
refused_in [] = false
refused_in (p ∷ earlier) = refused_in earlier || is_refused p.answer

-- ---- a task that was done

-- with its last event, and those before it
pub record Done (D W : Type 0) : Type 0 where
  pub task : Task
  pub last : Passed D W
  pub earlier : Course D W

abbrev pub course_of : {D W : Type 0} → Done D W → Course D W
course_of d = d.last ∷ d.earlier

-- From this standing all events of the task happened, and no more. None was answered want of memory or a store fault, and a
-- re-encryption was completed without a failure.
pub record IsTaskDone {D W : Type 0} (leads : WorldLeading D W) (a : Standing D W) (d : Done D W) : Type 0 where
  pub is_course : IsCourseOf leads d.task a (course_of d)
  pub none_follows : next_event d.task d.last.answer ≡ None
  pub none_lacks : NoneLacks (course_of d)
  pub good : is_good d.task d.last.answer ≡ true

-- the counts after it
abbrev pub counted : {D W : Type 0} → Done D W → Counts → Counts
counted d c = with_refused d.task (refused_in (course_of d)) (with_answer d.task d.last.answer c)

-- The task was done, from one standing to another, and these are the counts before and after it.
pub record DoesTask {D W : Type 0} (leads : WorldLeading D W) (t : Task) (a : Standing D W) (counts counts' : Counts) (b : Standing D W) : Type 0 where
  pub done : Done D W
  pub task_is : done.task ≡ t
  pub is_done : IsTaskDone leads a done
  pub last : done.last.after ≡ b
  pub counts_are : counts' ≡ counted done counts

-- ---- tasks one after another, the newest first

abbrev pub LoadHistory : Type 0 → Type 0 → Type 0
LoadHistory D W = List (Done D W)

-- what a history leaves
abbrev pub standing_at : {D W : Type 0} → Standing D W → LoadHistory D W → Standing D W
standing_at a [] = a
standing_at a (d ∷ earlier) = d.last.after

abbrev pub AreDone : {D W : Type 0} → WorldLeading D W → Standing D W → LoadHistory D W → Type 0
AreDone leads a [] = ⊤
AreDone leads a (d ∷ earlier) = IsTaskDone leads (standing_at a earlier) d × AreDone leads a earlier

-- the tasks of a history, in the order in which they were done
abbrev pub tasks_in : {D W : Type 0} → LoadHistory D W → List Task
tasks_in [] = []
tasks_in (d ∷ earlier) = tasks_in earlier ++ d.task ∷ []

abbrev pub counts_in : {D W : Type 0} → LoadHistory D W → Counts
counts_in [] = no_counts
counts_in (d ∷ earlier) = counted d (counts_in earlier)

-- These tasks were done one after another, from one standing to another, and these are their counts.
pub record DoesAll {D W : Type 0} (leads : WorldLeading D W) (todo : List Task) (a : Standing D W) (counts : Counts) (b : Standing D W) : Type 0 where
  pub history : LoadHistory D W
  pub tasks_are : tasks_in history ≡ todo
  pub done : AreDone leads a history
  pub last : standing_at a history ≡ b
  pub counts_are : counts ≡ counts_in history

-- They were done, and these random words are left.
pub record DoesInto {D W : Type 0} (leads : WorldLeading D W) (todo : List Task) (a : Standing D W) (counts : Counts) (words : W) : Type 0 where
  pub last : Standing D W
  pub does : DoesAll leads todo a counts last
  pub words_left : last.words ≡ words
