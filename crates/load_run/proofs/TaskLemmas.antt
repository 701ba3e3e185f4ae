-- Tasks, one event after another, and one task after another.
use Rattle.std.proofs.Common.{◌≡◌, ◌∙◌, ℕ, ◌+◌, ◌<◌, Bool, true, false, List, [], ◌∷◌, ◌++◌, Some, None, get_or, length, take, refl, sym, ap, subst}
use Rattle.std.proofs.lemmas.List.{take_more}
use Rattle.std.specs.Prelude.{◌||◌}
use Rattle.hk_events.specs.declared.event.Event.{Event}
use Rattle.hk_events.specs.declared.event.Line.{Line}
use Rattle.world_run.specs.Drives.{Course, Standing, WorldLeading, standing_after}
use Rattle.load_run.specs.declared.counts.Counts.{Counts}
use Rattle.load_run.specs.declared.task.Task.{Task}
use Rattle.load_run.specs.Answers.{is_refused, lacks}
use Rattle.load_run.specs.Counting.{is_good, with_answer, with_refused}
use Rattle.load_run.specs.Counts.{no_counts}
use Rattle.load_run.specs.History.{DoesAll, DoesTask, IsCourseOf, IsTaskDone, NoneLacks, counted, event_after, refused_in}
use Rattle.load_run.specs.Tasks.{first_event, next_event}

-- The task began in `a`; this event of it is next, in `b`.
pub record Doing {D W : Type 0} (leads : WorldLeading D W) (t : Task) (a : Standing D W) (refused : Bool) (next : Event) (b : Standing D W) : Type 0 where
  pub course : Course D W
  pub is_course : IsCourseOf leads t a course
  pub none_lacks : NoneLacks course
  pub refused_is : refused ≡ refused_in course
  pub last : standing_after a course ≡ b
  pub follows : event_after t course ≡ Some next

pub doing_begins : {D W : Type 0} (leads : WorldLeading D W) (t : Task) (a : Standing D W) (first : Event) → first ≡ first_event t → Doing leads t a false first a
doing_begins leads t a first is = record {
  course = [];
  is_course = tt;
  none_lacks = tt;
  refused_is = refl;
  last = refl;
  follows = ap (λ (e : Event). Some e) (sym is);
}

-- the next event happened
pub record Happened {D W : Type 0} (leads : WorldLeading D W) (b : Standing D W) (e : Event) (refused : Bool) (answer : Line) (refused' : Bool) (c : Standing D W) : Type 0 where
  pub led : leads b e answer c
  pub not_lacking : lacks answer ≡ false
  pub refused_is : refused' ≡ refused || is_refused answer

pub doing_on : {D W : Type 0} (leads : WorldLeading D W) (t : Task) (a : Standing D W) (refused : Bool) (e : Event) (b : Standing D W) (answer : Line) (refused' : Bool) (c : Standing D W) (next : Event)
    → Doing leads t a refused e b → Happened leads b e refused answer refused' c → next_event t answer ≡ Some next → Doing leads t a refused' next c
doing_on {D} {W} leads t a refused e b answer refused' c next doing happened follows = record {
  course = record { event = e; answer = answer; after = c } ∷ doing.course;
  is_course = (doing.follows, subst (λ (s : Standing D W). leads s e answer c) (sym doing.last) happened.led, doing.is_course);
  none_lacks = (happened.not_lacking, doing.none_lacks);
  refused_is = happened.refused_is ∙ ap (λ (r : Bool). r || is_refused answer) doing.refused_is;
  last = refl;
  follows = follows;
}

pub task_done : {D W : Type 0} (leads : WorldLeading D W) (t : Task) (a : Standing D W) (refused : Bool) (e : Event) (b : Standing D W) (answer : Line) (refused' : Bool) (c : Standing D W) (counts counts' : Counts)
    → Doing leads t a refused e b → Happened leads b e refused answer refused' c → next_event t answer ≡ None
    → counts' ≡ with_refused t refused' (with_answer t answer counts) → is_good t answer ≡ true → DoesTask leads t a counts counts' c
task_done {D} {W} leads t a refused e b answer refused' c counts counts' doing happened none counted_is good = record {
  done = record { task = t; last = record { event = e; answer = answer; after = c }; earlier = doing.course };
  task_is = refl;
  is_done = record {
    is_course = (doing.follows, subst (λ (s : Standing D W). leads s e answer c) (sym doing.last) happened.led, doing.is_course);
    none_follows = none;
    none_lacks = (happened.not_lacking, doing.none_lacks);
    good = good;
  };
  last = refl;
  counts_are = counted_is ∙ ap (λ (r : Bool). with_refused t r (with_answer t answer counts)) (happened.refused_is ∙ ap (λ (r : Bool). r || is_refused answer) doing.refused_is);
}

pub none_done : {D W : Type 0} (leads : WorldLeading D W) (a : Standing D W) → DoesAll leads [] a no_counts a
none_done leads a = record { history = []; tasks_are = refl; done = tt; last = refl; counts_are = refl }

pub one_more_done : {D W : Type 0} (leads : WorldLeading D W) (todo todo' : List Task) (t : Task) (a : Standing D W) (counts : Counts) (b : Standing D W) (counts' : Counts) (c : Standing D W)
    → DoesAll leads todo a counts b → DoesTask leads t b counts counts' c → todo' ≡ todo ++ t ∷ [] → DoesAll leads todo' a counts' c
one_more_done {D} {W} leads todo todo' t a counts b counts' c all one todo_is = record {
  history = one.done ∷ all.history;
  tasks_are = ap (λ (xs : List Task). xs ++ one.done.task ∷ []) all.tasks_are ∙ ap (λ (x : Task). todo ++ x ∷ []) one.task_is ∙ sym todo_is;
  done = (subst (λ (s : Standing D W). IsTaskDone leads s one.done) (sym all.last) one.is_done, all.done);
  last = one.last;
  counts_are = one.counts_are ∙ ap (λ (x : Counts). counted one.done x) all.counts_are;
}

-- the tasks up to the next one
pub task_taken : (items seen : List Task) (i : ℕ) (d : Task) → seen ≡ items → i < length seen → take (i + 1) items ≡ take i items ++ get_or seen i d ∷ []
task_taken items seen i d same lt = subst (λ (xs : List Task). take (i + 1) xs ≡ take i xs ++ get_or seen i d ∷ []) same (take_more seen i d lt)
