-- A drive from event to event: the course so far, and what it ends with.
use Rattle.std.proofs.Common.{◌≡◌, ◌⊎◌, inl, inr, ℕ, zero, suc, ◌<◌, Bool, true, false, List, [], ◌∷◌, Option, Some, None, Err, refl, sym, ap, subst, ◌∙◌, arith}
use Rattle.std.specs.Prelude.{⊤, ◌&&◌, not}
use Rattle.std.specs.declared.result.Result.{Result}
use Rattle.hk_base.specs.Disk.{DiskState, Tells}
use Rattle.hk_base.specs.Faults.{Rose}
use Rattle.kms_acls.specs.Agreement.{AreListsOf}
use Rattle.name_calls.specs.Paths.{is_relative, path_text, read_path, read_relative, starts_reserved}
use Rattle.name_calls.specs.declared.calls.NameRefusal.{NameRefusal}
use Rattle.name_calls.specs.declared.calls.NameRefusal.TheVariants as refusal
use Rattle.name_calls.specs.declared.paths.NPath.{NPath}
use Rattle.edit_ops.proofs.PathText.{path_takes, relative_again}
use Rattle.name_core.specs.declared.walks.Walked.{Walked}
use Rattle.name_core.specs.State.{IsNames, NameState, settled}
use Rattle.prop_text.specs.declared.lines.PropLine.{PropLine}
use Rattle.hk_events.specs.declared.event.Event.{Event}
use Rattle.hk_events.specs.declared.event.Event.TheVariants as event
use Rattle.hk_events.specs.declared.event.Line.{Line}
use Rattle.hk_events.specs.declared.event.Line.TheVariants as line
use Rattle.world_run.specs.Acknowledged.{Acknowledged, HoldsLogs, also}
use Rattle.world_run.specs.Drives.{Course, Drives, EndsAs, FirstSettles, FirstWalks, IsCourse, Leads, NoneFails, Standing, WorldLeading, add_batch, batches_in, event_after, files_left, next_event, outstanding_in, result_of, standing_after}
use Rattle.world_run.specs.Keeps.{is_restart}
use Rattle.world_run.specs.Linked.{ServicesFit}
use Rattle.world_run.specs.Step.{Step}
use Rattle.world_run.specs.World.{WorldState, world_of}
use Rattle.world_run.proofs.Members.{some-is}
use Rattle.world_run.proofs.DriveSteps.{After, GoesOn, SoFar, deliver-so-far, first-walk, next-walk, serve-so-far, some-room}

-- the path of a zone

left-true : (a b : Bool) → (a && b) ≡ true → a ≡ true
left-true true b h = refl
left-true false b h = absurd cc

-- the text of a path is read as that path, unless it is refused
pub text-read : (zone : NPath) → is_relative zone ≡ true → (read_path (path_text zone) ≡ None) ⊎ (read_path (path_text zone) ≡ Some zone)
text-read zone ruled = go (read_path (path_text zone)) refl
  where
    go : (o : Option NPath) → read_path (path_text zone) ≡ o → (o ≡ None) ⊎ (o ≡ Some zone)
    go None is = inl refl
    go (Some p) is =
        let t = path_takes (path_text zone) p is in
        let one : Some p ≡ Some zone =
        sym (relative_again p (left-true (is_relative p) (not (starts_reserved p)) t.1)) ∙ ap read_relative (sym t.0) ∙ relative_again zone ruled in
        inr one

-- an event after an answer

on : (found : NameState) (zone : NPath) (count : ℕ) (lines : List PropLine) (w : WorldState) (words : ℕ → ℕ) (now : ℕ) (before : Line) (e : Event) (fault tells : Type 0) (answer : Line) (drawn : ℕ) (logged : Acknowledged) (w' : WorldState)
    → is_relative zone ≡ true → IsNames w'.names → next_event (path_text zone) before ≡ Some e → SoFar found zone count w before → Step lines w words now e fault tells answer drawn logged w' → GoesOn found zone count before w' answer
on found zone count lines w words now (line.Batch number files) e fault tells answer drawn logged w' ruled names is so step =
    let serves = subst (λ (x : Event). Step lines w words now x fault tells answer drawn logged w') (sym (some-is (event.Serve number) e is)) step in
    record { so_far = serve-so-far found zone count lines w words now number files fault tells answer drawn logged w' so serves; fails_none = λ other keys delivered replied was. absurd cc }
on found zone count lines w words now (line.Replied number reply) e fault tells answer drawn logged w' ruled names is so step =
    deliver-so-far found zone count w number reply fault answer drawn logged w' so (subst (λ (x : Event). Step lines w words now x fault tells answer drawn logged w') (sym (some-is (event.Deliver number) e is)) step)
on found zone count lines w words now (line.Delivered delivered) e fault tells answer drawn logged w' ruled names is so step =
    let walks = subst (λ (x : Event). Step lines w words now x fault tells answer drawn logged w') (sym (some-is (event.Walk (path_text zone)) e is)) step in
    record {
      so_far = next-walk found zone count w (read_path (path_text zone)) delivered fault answer drawn logged w' (text-read zone ruled) so names walks;
      fails_none = λ other keys done replied was. absurd cc;
    }
on found zone count lines w words now (line.Kms reply) e fault tells answer drawn logged w' ruled names is so step = absurd cc
on found zone count lines w words now (line.Ticket number version wanted) e fault tells answer drawn logged w' ruled names is so step = absurd cc
on found zone count lines w words now line.NoTicket e fault tells answer drawn logged w' ruled names is so step = absurd cc
on found zone count lines w words now (line.Deposit deposit) e fault tells answer drawn logged w' ruled names is so step = absurd cc
on found zone count lines w words now (line.Opened opening) e fault tells answer drawn logged w' ruled names is so step = absurd cc
on found zone count lines w words now (line.Name reply) e fault tells answer drawn logged w' ruled names is so step = absurd cc
on found zone count lines w words now (line.Asked number note) e fault tells answer drawn logged w' ruled names is so step = absurd cc
on found zone count lines w words now (line.NoneLeft waiting) e fault tells answer drawn logged w' ruled names is so step = absurd cc
on found zone count lines w words now line.Completed e fault tells answer drawn logged w' ruled names is so step = absurd cc
on found zone count lines w words now (line.Refused why) e fault tells answer drawn logged w' ruled names is so step = absurd cc
on found zone count lines w words now line.Unknown e fault tells answer drawn logged w' ruled names is so step = absurd cc

-- the end

as-counted : (waiting out : ℕ) → waiting ≡ out → 0 < out → EndsAs out (result_of (line.NoneLeft waiting))
as-counted waiting zero same some = absurd (omega (arith, some))
as-counted waiting (suc n) same some = inl (ap (λ (k : ℕ). result_of (line.NoneLeft k)) same)

complete : (out : ℕ) → out ≡ 0 → EndsAs out (result_of line.Completed)
complete zero none = inl refl
complete (suc n) none = absurd (omega (arith, none))

ends : (w : WorldState) (zone : NPath) (size left out : ℕ) (answer : Line) → After w zone size left out answer → EndsAs out (result_of answer)
ends w zone size left out (line.NoneLeft waiting) after = as-counted waiting out after.0 after.1
ends w zone size left out line.Completed after = complete out after
ends w zone size left out (line.Refused why) after = inr (why, refl)
ends w zone size left out (line.Batch number files) after = inr (refusal.NoMemory, refl)
ends w zone size left out (line.Replied number reply) after = inr (refusal.NoMemory, refl)
ends w zone size left out (line.Delivered delivered) after = inr (refusal.NoMemory, refl)
ends w zone size left out (line.Kms reply) after = inr (refusal.NoMemory, refl)
ends w zone size left out (line.Ticket number version wanted) after = inr (refusal.NoMemory, refl)
ends w zone size left out line.NoTicket after = inr (refusal.NoMemory, refl)
ends w zone size left out (line.Deposit deposit) after = inr (refusal.NoMemory, refl)
ends w zone size left out (line.Opened opening) after = inr (refusal.NoMemory, refl)
ends w zone size left out (line.Name reply) after = inr (refusal.NoMemory, refl)
ends w zone size left out (line.Asked number note) after = inr (refusal.NoMemory, refl)
ends w zone size left out line.Unknown after = inr (refusal.NoMemory, refl)

-- an answer that an event follows is no end
no-end : (path : List ℕ) (answer : Line) (e : Event) → next_event path answer ≡ Some e → result_of answer ≡ Err refusal.NoMemory
no-end path (line.Batch number files) e is = refl
no-end path (line.Replied number reply) e is = refl
no-end path (line.Delivered delivered) e is = refl
no-end path (line.NoneLeft waiting) e is = absurd cc
no-end path line.Completed e is = absurd cc
no-end path (line.Refused why) e is = absurd cc
no-end path (line.Kms reply) e is = refl
no-end path (line.Ticket number version wanted) e is = refl
no-end path line.NoTicket e is = refl
no-end path (line.Deposit deposit) e is = refl
no-end path (line.Opened opening) e is = refl
no-end path (line.Name reply) e is = refl
no-end path (line.Asked number note) e is = refl
no-end path line.Unknown e is = refl

-- a course so far

abbrev pub SoFarOf : {D W : Type 0} → NPath → Standing D W → Course D W → Type 0
SoFarOf zone a [] = ⊤
SoFarOf zone a (p ∷ earlier) = (kept : Bool) × SoFar (settled kept (world_of a.world).names) zone (batches_in (p ∷ earlier)) (world_of p.after.world) p.answer × FirstSettles kept zone a (p ∷ earlier)

pub record Runs {D W : Type 0} (leads : WorldLeading D W) (zone : NPath) (a : Standing D W) (course : Course D W) : Type 0 where
  pub is_course : IsCourse leads (path_text zone) a course
  pub none_fails : NoneFails course
  pub so_far : SoFarOf zone a course

-- this event comes next
pub record Comes {D W : Type 0} (leads : WorldLeading D W) (zone : NPath) (a : Standing D W) (e : Event) (b : Standing D W) : Type 0 where
  pub course : Course D W
  pub runs : Runs leads zone a course
  pub last : standing_after a course ≡ b
  pub event_is : event_after (path_text zone) course ≡ Some e

-- this was the last answer
pub record Came {D W : Type 0} (leads : WorldLeading D W) (zone : NPath) (a : Standing D W) (answer : Line) (b : Standing D W) : Type 0 where
  pub earlier : Course D W
  pub event : Event
  pub runs : Runs leads zone a (record { event = event; answer = answer; after = b } ∷ earlier)

-- a drive begins with a walk
pub begins : {D W : Type 0} (leads : WorldLeading D W) (zone : NPath) (a : Standing D W) → Comes leads zone a (event.Walk (path_text zone)) a
begins leads zone a = record { course = []; runs = record { is_course = tt; none_fails = tt; so_far = tt }; last = refl; event_is = refl }

-- an event follows the last answer
pub comes-next : {D W : Type 0} (leads : WorldLeading D W) (zone : NPath) (a : Standing D W) (answer : Line) (e : Event) (b : Standing D W) → Came leads zone a answer b → next_event (path_text zone) answer ≡ Some e → Comes leads zone a e b
comes-next leads zone a answer e b came is = record { course = record { event = came.event; answer = answer; after = b } ∷ came.earlier; runs = came.runs; last = refl; event_is = is }

-- an event happens
pub happens : {D W : Type 0} (state : D → DiskState) (to_come : W → ℕ → ℕ) (lines : List PropLine) (now : ℕ) (zone : NPath) (a : Standing D W) (e : Event) (b : Standing D W) (answer : Line) (c : Standing D W)
    → is_relative zone ≡ true → ServicesFit (world_of a.world) → ServicesFit (world_of c.world) → Comes (Leads state to_come lines now) zone a e b → Leads state to_come lines now b e answer c → Came (Leads state to_come lines now) zone a answer c
happens {D = D} {W = W} state to_come lines now zone a e b answer c ruled before after comes leads = go comes.course comes.runs comes.last comes.event_is
  where
    go : (course : Course D W) → Runs (Leads state to_come lines now) zone a course → standing_after a course ≡ b → event_after (path_text zone) course ≡ Some e → Came (Leads state to_come lines now) zone a answer c
    go [] runs last is =
        let walks = subst (λ (x : Event). Step lines (world_of b.world) (to_come b.words) now x (Rose (state b.disk).faults (state c.disk).faults) (Tells (state b.disk)) answer leads.drawn leads.logged (world_of c.world))
        (sym (some-is (event.Walk (path_text zone)) e is)) leads.step.step in
        let so = first-walk zone (world_of b.world) (read_path (path_text zone)) (Rose (state b.disk).faults (state c.disk).faults) answer leads.drawn leads.logged (world_of c.world) (text-read zone ruled)
        (subst (λ (s : Standing D W). IsNames (world_of s.world).names) last before.names) after.names walks in
        record {
          earlier = [];
          event = e;
          runs = record {
            is_course = (is, subst (λ (s : Standing D W). Leads state to_come lines now s e answer c) (sym last) leads, tt);
            none_fails = (tt, tt);
            so_far = subst (λ (s : Standing D W). (kept : Bool) × SoFar (settled kept (world_of s.world).names) zone (add_batch answer 0) (world_of c.world) answer × FirstWalks kept (world_of s.world) zone answer (world_of c.world)) (sym last) so;
          };
        }
    go (p ∷ earlier) runs last is =
        let goes = on (settled runs.so_far.0 (world_of a.world).names) zone (batches_in (p ∷ earlier)) lines (world_of b.world) (to_come b.words) now p.answer e (Rose (state b.disk).faults (state c.disk).faults) (Tells (state b.disk)) answer
        leads.drawn leads.logged (world_of c.world) ruled after.names is
        (subst (λ (s : Standing D W). SoFar (settled runs.so_far.0 (world_of a.world).names) zone (batches_in (p ∷ earlier)) (world_of s.world) p.answer) last runs.so_far.1) leads.step.step in
        record {
          earlier = p ∷ earlier;
          event = e;
          runs = record {
            is_course = (is, subst (λ (s : Standing D W). Leads state to_come lines now s e answer c) (sym last) leads, runs.is_course);
            none_fails = (goes.fails_none, runs.none_fails);
            so_far = (runs.so_far.0, goes.so_far, runs.so_far.2);
          };
        }

-- the drive ends after the last answer
pub ended : {D W : Type 0} (state : D → DiskState) (to_come : W → ℕ → ℕ) (lines : List PropLine) (now : ℕ) (zone : NPath) (a : Standing D W) (answer : Line) (b : Standing D W)
    → Came (Leads state to_come lines now) zone a answer b → Drives state to_come lines now zone a (result_of answer) b
ended state to_come lines now zone a answer b came = record {
  course = record { event = came.event; answer = answer; after = b } ∷ came.earlier;
  is_course = came.runs.is_course;
  last = refl;
  result_is = refl;
  none_fails = came.runs.none_fails;
  kept = came.runs.so_far.0;
  first = came.runs.so_far.2;
  few = came.runs.so_far.1.few;
  ends = ends (world_of b.world) zone _ _ (outstanding_in (settled came.runs.so_far.0 (world_of a.world).names) zone) answer came.runs.so_far.1.after;
}

-- memory runs out for the event that comes next
pub given-up : {D W : Type 0} (state : D → DiskState) (to_come : W → ℕ → ℕ) (lines : List PropLine) (now : ℕ) (zone : NPath) (a : Standing D W) (e : Event) (b : Standing D W)
    → ServicesFit (world_of a.world) → Comes (Leads state to_come lines now) zone a e b → Drives state to_come lines now zone a (Err refusal.NoMemory) b
given-up {D = D} {W = W} state to_come lines now zone a e b before comes = go comes.course comes.runs comes.last comes.event_is
  where
    go : (course : Course D W) → Runs (Leads state to_come lines now) zone a course → standing_after a course ≡ b → event_after (path_text zone) course ≡ Some e → Drives state to_come lines now zone a (Err refusal.NoMemory) b
    go [] runs last is = record {
      course = [];
      is_course = tt;
      last = last;
      result_is = refl;
      none_fails = tt;
      kept = true;
      first = tt;
      few = some-room a.world.names.batch (files_left (settled true (world_of a.world).names) zone) before.names.size.0;
      ends = inr (refusal.NoMemory, refl);
    }
    go (p ∷ earlier) runs last is = record {
      course = p ∷ earlier;
      is_course = runs.is_course;
      last = last;
      result_is = sym (no-end (path_text zone) p.answer e is);
      none_fails = runs.none_fails;
      kept = runs.so_far.0;
      first = runs.so_far.2;
      few = runs.so_far.1.few;
      ends = inr (refusal.NoMemory, refl);
    }

-- the invariant of a drive

-- A log is on the disk, the lists are those of the beginning, and the course so far is known under the properties of the lists.
pub record Driving {D W : Type 0} (state : D → DiskState) (to_come : W → ℕ → ℕ) (now : ℕ) (zone : NPath) (a : Standing D W) (e : Event) (b : Standing D W) : Type 0 where
  pub stands : Tells (state b.disk) → ((done : Acknowledged) × HoldsLogs (state b.disk) b.world done)
  pub lists : b.world.keys.acls ≡ a.world.keys.acls
  pub comes : (lines : List PropLine) → AreListsOf a.world.keys.acls lines → Comes (Leads state to_come lines now) zone a e b

-- the same after an answer
pub record Answered {D W : Type 0} (state : D → DiskState) (to_come : W → ℕ → ℕ) (now : ℕ) (zone : NPath) (a : Standing D W) (answer : Line) (b : Standing D W) : Type 0 where
  pub stands : Tells (state b.disk) → ((done : Acknowledged) × HoldsLogs (state b.disk) b.world done)
  pub lists : b.world.keys.acls ≡ a.world.keys.acls
  pub came : (lines : List PropLine) → AreListsOf a.world.keys.acls lines → Came (Leads state to_come lines now) zone a answer b

pub drive-begins : {D W : Type 0} (state : D → DiskState) (to_come : W → ℕ → ℕ) (now : ℕ) (zone : NPath) (a : Standing D W) (e : Event) → e ≡ event.Walk (path_text zone)
    → (Tells (state a.disk) → ((done : Acknowledged) × HoldsLogs (state a.disk) a.world done)) → Driving state to_come now zone a e a
drive-begins {D = D} {W = W} state to_come now zone a e is stands =
    record { stands = stands; lists = refl; comes = λ lines lists. subst (λ (x : Event). Comes (Leads state to_come lines now) zone a x a) (sym is) (begins (Leads state to_come lines now) zone a) }

-- no event of a drive is a restart

restart-of : (x e : Event) (file : ℕ) → Some x ≡ Some e → is_restart e file → is_restart x file
restart-of x e file is r = subst (λ (y : Event). is_restart y file) (sym (some-is x e is)) r

no-restart : (path : List ℕ) (answer : Line) (e : Event) (file : ℕ) → next_event path answer ≡ Some e → is_restart e file → ⊥
no-restart path (line.Batch number files) e file is r = restart-of (event.Serve number) e file is r
no-restart path (line.Replied number reply) e file is r = restart-of (event.Deliver number) e file is r
no-restart path (line.Delivered delivered) e file is r = restart-of (event.Walk path) e file is r
no-restart path (line.NoneLeft waiting) e file is r = cc
no-restart path line.Completed e file is r = cc
no-restart path (line.Refused why) e file is r = cc
no-restart path (line.Kms reply) e file is r = cc
no-restart path (line.Ticket number version wanted) e file is r = cc
no-restart path line.NoTicket e file is r = cc
no-restart path (line.Deposit deposit) e file is r = cc
no-restart path (line.Opened opening) e file is r = cc
no-restart path (line.Name reply) e file is r = cc
no-restart path (line.Asked number note) e file is r = cc
no-restart path line.Unknown e file is r = cc

after-no-restart : {D W : Type 0} (path : List ℕ) (course : Course D W) (e : Event) (file : ℕ) → event_after path course ≡ Some e → is_restart e file → ⊥
after-no-restart path [] e file is r = restart-of (event.Walk path) e file is r
after-no-restart path (p ∷ earlier) e file is r = no-restart path p.answer e file is r

-- the lists are those of the properties of some lines
abbrev pub HasSomeLists : {D W : Type 0} → Standing D W → Type 0
HasSomeLists a = (lines : List PropLine) × AreListsOf a.world.keys.acls lines

pub drive-no-restart : {D W : Type 0} (state : D → DiskState) (to_come : W → ℕ → ℕ) (now : ℕ) (zone : NPath) (a : Standing D W) (e : Event) (b : Standing D W) (file : ℕ)
    → HasSomeLists a → Driving state to_come now zone a e b → is_restart e file → ⊥
drive-no-restart state to_come now zone a e b file has driving r =
    let comes = driving.comes has.0 has.1 in after-no-restart (path_text zone) comes.course e file comes.event_is r

-- an event happens
pub drive-happens : {D W : Type 0} (state : D → DiskState) (to_come : W → ℕ → ℕ) (now : ℕ) (zone : NPath) (a : Standing D W) (e : Event) (b : Standing D W) (answer : Line) (c : Standing D W)
    → is_relative zone ≡ true → ServicesFit (world_of a.world) → ServicesFit (world_of c.world) → HasSomeLists a → Driving state to_come now zone a e b
    → ((lines : List PropLine) → AreListsOf b.world.keys.acls lines → Leads state to_come lines now b e answer c) → Answered state to_come now zone a answer c
drive-happens {D = D} {W = W} state to_come now zone a e b answer c ruled before after has driving step = record {
  stands = λ tells. stood (steps has.0 has.1) tells;
  lists = (steps has.0 has.1).lists ∙ driving.lists;
  came = λ lines lists. happens state to_come lines now zone a e b answer c ruled before after (driving.comes lines lists) (steps lines lists);
}
  where
    steps : (lines : List PropLine) → AreListsOf a.world.keys.acls lines → Leads state to_come lines now b e answer c
    steps lines lists = step lines (subst (λ l. AreListsOf l lines) (sym driving.lists) lists)

    stood : {lines : List PropLine} → Leads state to_come lines now b e answer c → Tells (state c.disk) → (done : Acknowledged) × HoldsLogs (state c.disk) c.world done
    stood s tells =
        let told : Tells (state b.disk) = subst (λ (x : Bool). x ≡ true) s.run.tells tells in
        let d = driving.stands told in
        (also d.0 s.logged, s.stands told d.0 d.1)

-- another event follows
pub drive-follows : {D W : Type 0} (state : D → DiskState) (to_come : W → ℕ → ℕ) (now : ℕ) (zone : NPath) (a : Standing D W) (answer : Line) (e : Event) (b : Standing D W)
    → Answered state to_come now zone a answer b → next_event (path_text zone) answer ≡ Some e → Driving state to_come now zone a e b
drive-follows state to_come now zone a answer e b answered is =
    record { stands = answered.stands; lists = answered.lists; comes = λ lines lists. comes-next (Leads state to_come lines now) zone a answer e b (answered.came lines lists) is }

-- the last answer ends the drive
pub drive-ends : {D W : Type 0} (state : D → DiskState) (to_come : W → ℕ → ℕ) (now : ℕ) (zone : NPath) (a : Standing D W) (answer : Line) (b : Standing D W) (result : Result Walked NameRefusal)
    → result ≡ result_of answer → Answered state to_come now zone a answer b → (lines : List PropLine) → AreListsOf a.world.keys.acls lines → Drives state to_come lines now zone a result b
drive-ends state to_come now zone a answer b result is answered lines lists = subst (λ r. Drives state to_come lines now zone a r b) (sym is) (ended state to_come lines now zone a answer b (answered.came lines lists))

-- memory runs out
pub drive-gives-up : {D W : Type 0} (state : D → DiskState) (to_come : W → ℕ → ℕ) (now : ℕ) (zone : NPath) (a : Standing D W) (e : Event) (b : Standing D W)
    → ServicesFit (world_of a.world) → Driving state to_come now zone a e b → (lines : List PropLine) → AreListsOf a.world.keys.acls lines → Drives state to_come lines now zone a (Err refusal.NoMemory) b
drive-gives-up state to_come now zone a e b before driving lines lists = given-up state to_come lines now zone a e b before (driving.comes lines lists)
