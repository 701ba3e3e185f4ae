-- Orders, one event after another.
use Rattle.std.proofs.Common.{◌≡◌, inl, inr, ℕ, ◌<◌, Bool, true, false, List, [], ◌∷◌, Option, Some, None, refl, sym, ap, subst, ◌∙◌, arith}
use Rattle.std.specs.Prelude.{◌^◌, nat_lt, if◌then◌else◌, Result, Ok, Err}
use Rattle.hk_base.specs.Disk.{DiskState}
use Rattle.hk_events.specs.declared.event.Event.{Event}
use Rattle.hk_events.specs.declared.event.Event.TheVariants as event
use Rattle.hk_events.specs.declared.event.Line.{Line}
use Rattle.hk_events.specs.declared.event.Line.TheVariants as line
use Rattle.name_calls.specs.declared.calls.AskNote.{AskNote}
use Rattle.name_calls.specs.declared.calls.NameRefusal.{NameRefusal}
use Rattle.name_calls.specs.declared.calls.NameReply.{NameReply}
use Rattle.name_calls.specs.declared.paths.NPath.{NPath}
use Rattle.name_rest.specs.declared.order.NameOrder.{NameOrder}
use Rattle.hk_serve.specs.Transactions.{OfKeys, OfLook, OfNames}
use Rattle.service_health.specs.declared.counts.CallCounts.{CallCounts}
use Rattle.service_health.specs.declared.pages.Page.{Page}
use Rattle.kms_acls.specs.Agreement.{AreListsOf}
use Rattle.kms_calls.specs.declared.calls.KmsCall.{KmsCall}
use Rattle.kms_calls.specs.declared.calls.KmsReply.{KmsReply}
use Rattle.prop_text.specs.declared.lines.PropLine.{PropLine}
use Rattle.world_run.specs.Acknowledged.{Acknowledged}
use Rattle.world_run.specs.Drives.{Course, Leads, Standing, WorldLeading, standing_after}
use Rattle.world_run.specs.Keeps.{is_restart}
use Rattle.world_run.specs.Step.{DrawActs, FinishReply, Step, finish_line}
use Rattle.world_run.specs.World.{WorldState, numbered, world_of}
use Rattle.world_run.specs.declared.kept.KeptReply.{KeptReply}
use Rattle.world_run.specs.declared.kept.KeptReply.TheVariants.{ToAsk, ToBatch}
use Rattle.world_desk.specs.Orders.{Follow, event_after, first_event, next_in_order, reply_of, submitted_by}
use Rattle.world_desk.specs.Worlds.{Carries, DrivesOn, HappensAtDesk, IsDeskReady, LeadsOn, Passes, events_in}

-- ---- how many events may follow

-- at most this many events of an order are left, with this one
abbrev pub events_left : Event → ℕ
events_left (event.Finish number) = 1
events_left (event.Draw number) = 2
events_left _ = 3

-- the event that follows an answer makes the call of an ask, or finishes it
pub data NextIs (answer : Line) (next : Event) : Type 0 where
  Draws : (number : ℕ) (note : AskNote) (answer_is : answer ≡ line.Asked number note) (next_is : next ≡ event.Draw number) → NextIs answer next
  Finishes : (number : ℕ) (next_is : next ≡ event.Finish number) → NextIs answer next

some_numbered : (b : Bool) (made next : Event) → (if b then Some made else None) ≡ Some next → next ≡ made
some_numbered true made next is = cc
some_numbered false made next is = absurd cc

next_is : (answer : Line) (next : Event) → next_in_order answer ≡ Some next → NextIs answer next
next_is (line.Kms r) next is = absurd cc
next_is (line.Ticket number version wanted) next is = absurd cc
next_is line.NoTicket next is = absurd cc
next_is (line.Deposit d) next is = absurd cc
next_is (line.Opened opening) next is = absurd cc
next_is (line.Name r) next is = absurd cc
next_is (line.Asked number note) next is = Draws number note refl (some_numbered (nat_lt number (2 ^ 32)) (event.Draw number) next is)
next_is (line.Replied number r) next is = Finishes number (some_numbered (nat_lt number (2 ^ 32)) (event.Finish number) next is)
next_is (line.Batch number files) next is = absurd cc
next_is (line.NoneLeft count) next is = absurd cc
next_is line.Completed next is = absurd cc
next_is (line.Delivered d) next is = absurd cc
next_is (line.Refused why) next is = absurd cc
next_is line.Unknown next is = absurd cc

finished : (result : Result (Unit {0}) NameRefusal) → next_in_order (finish_line result) ≡ None
finished (Ok done) = refl
finished (Err why) = refl

-- nothing follows a finish
after_finish : (w : WorldState) (kept : Option KeptReply) (fault : Type 0) (answer : Line) (drawn : ℕ) (logged : Acknowledged) (w' : WorldState) → FinishReply w kept fault answer drawn logged w' → next_in_order answer ≡ None
after_finish w None fault answer drawn logged w' unknown = ap next_in_order unknown.reply_is
after_finish w (Some (ToAsk id given)) fault answer drawn logged w' acts = ap next_in_order acts.reply_is ∙ finished acts.result
after_finish w (Some (ToBatch given)) fault answer drawn logged w' unknown = ap next_in_order unknown.reply_is

-- no ask is made by the call of one
not_asked : (lines : List PropLine) (w : WorldState) (words : ℕ → ℕ) (now : ℕ) (kept : Option AskNote) (fault tells : Type 0) (answer : Line) (drawn : ℕ) (logged : Acknowledged) (w' : WorldState) (number : ℕ) (note : AskNote)
    → DrawActs lines w words now kept fault tells answer drawn logged w' → answer ≡ line.Asked number note → ⊥
not_asked lines w words now None fault tells answer drawn logged w' number note unknown is = let e = unknown.reply_is in absurd cc
not_asked lines w words now (Some kept) fault tells answer drawn logged w' number note (inl draws) is = let e = draws.reply_is in absurd cc
not_asked lines w words now (Some kept) fault tells answer drawn logged w' number note (inr lacks) is = let e = lacks.reply_is in absurd cc

fewer_than_three : (answer : Line) (next : Event) → NextIs answer next → events_left next < 3
fewer_than_three answer next (Draws number note answer_is next_is) = let e = ap events_left next_is in omega (arith, e)
fewer_than_three answer next (Finishes number next_is) = let e = ap events_left next_is in omega (arith, e)

fewer_after_draw : (lines : List PropLine) (w : WorldState) (words : ℕ → ℕ) (now : ℕ) (kept : Option AskNote) (fault tells : Type 0) (answer : Line) (drawn : ℕ) (logged : Acknowledged) (w' : WorldState) (next : Event)
    → DrawActs lines w words now kept fault tells answer drawn logged w' → NextIs answer next → events_left next < 2
fewer_after_draw lines w words now kept fault tells answer drawn logged w' next acts (Draws number note answer_is next_is) = absurd (not_asked lines w words now kept fault tells answer drawn logged w' number note acts answer_is)
fewer_after_draw lines w words now kept fault tells answer drawn logged w' next acts (Finishes number next_is) = let e = ap events_left next_is in omega (arith, e)

fewer_left : (lines : List PropLine) (w : WorldState) (words : ℕ → ℕ) (now : ℕ) (e : Event) (fault tells : Type 0) (answer : Line) (drawn : ℕ) (logged : Acknowledged) (w' : WorldState) (next : Event)
    → Step lines w words now e fault tells answer drawn logged w' → next_in_order answer ≡ Some next → events_left next < events_left e
fewer_left lines w words now (event.Kms user asked) fault tells answer drawn logged w' next acts is = fewer_than_three answer next (next_is answer next is)
fewer_left lines w words now event.Ticket fault tells answer drawn logged w' next acts is = fewer_than_three answer next (next_is answer next is)
fewer_left lines w words now (event.Deposit number) fault tells answer drawn logged w' next acts is = fewer_than_three answer next (next_is answer next is)
fewer_left lines w words now event.RestartKms fault tells answer drawn logged w' next acts is = fewer_than_three answer next (next_is answer next is)
fewer_left lines w words now event.RestartName fault tells answer drawn logged w' next acts is = fewer_than_three answer next (next_is answer next is)
fewer_left lines w words now (event.Mkdir user path) fault tells answer drawn logged w' next acts is = fewer_than_three answer next (next_is answer next is)
fewer_left lines w words now (event.Delete user path recursive) fault tells answer drawn logged w' next acts is = fewer_than_three answer next (next_is answer next is)
fewer_left lines w words now (event.Rename user path to) fault tells answer drawn logged w' next acts is = fewer_than_three answer next (next_is answer next is)
fewer_left lines w words now (event.Info user path) fault tells answer drawn logged w' next acts is = fewer_than_three answer next (next_is answer next is)
fewer_left lines w words now (event.List user path) fault tells answer drawn logged w' next acts is = fewer_than_three answer next (next_is answer next is)
fewer_left lines w words now (event.Allow user path) fault tells answer drawn logged w' next acts is = fewer_than_three answer next (next_is answer next is)
fewer_left lines w words now (event.Disallow user path) fault tells answer drawn logged w' next acts is = fewer_than_three answer next (next_is answer next is)
fewer_left lines w words now (event.Snap user path name) fault tells answer drawn logged w' next acts is = fewer_than_three answer next (next_is answer next is)
fewer_left lines w words now (event.Unsnap user path name) fault tells answer drawn logged w' next acts is = fewer_than_three answer next (next_is answer next is)
fewer_left lines w words now (event.Cancel user path) fault tells answer drawn logged w' next acts is = fewer_than_three answer next (next_is answer next is)
fewer_left lines w words now (event.Status user path) fault tells answer drawn logged w' next acts is = fewer_than_three answer next (next_is answer next is)
fewer_left lines w words now (event.Zones user) fault tells answer drawn logged w' next acts is = fewer_than_three answer next (next_is answer next is)
fewer_left lines w words now (event.AskCreate user path) fault tells answer drawn logged w' next acts is = fewer_than_three answer next (next_is answer next is)
fewer_left lines w words now (event.AskZone user path key) fault tells answer drawn logged w' next acts is = fewer_than_three answer next (next_is answer next is)
fewer_left lines w words now (event.AskSubmit user path) fault tells answer drawn logged w' next acts is = fewer_than_three answer next (next_is answer next is)
fewer_left lines w words now (event.Draw number) fault tells answer drawn logged w' next acts is = fewer_after_draw lines w words now (numbered w.kept.notes number) fault tells answer drawn logged w' next acts (next_is answer next is)
fewer_left lines w words now (event.Finish number) fault tells answer drawn logged w' next acts is = let none = after_finish w (numbered w.kept.replies number) fault answer drawn logged w' acts in absurd cc
fewer_left lines w words now (event.Walk path) fault tells answer drawn logged w' next acts is = fewer_than_three answer next (next_is answer next is)
fewer_left lines w words now (event.Serve number) fault tells answer drawn logged w' next acts is = fewer_than_three answer next (next_is answer next is)
fewer_left lines w words now (event.Deliver number) fault tells answer drawn logged w' next acts is = fewer_than_three answer next (next_is answer next is)
fewer_left lines w words now (event.GiveUp number) fault tells answer drawn logged w' next acts is = fewer_than_three answer next (next_is answer next is)

no_restart : (answer : Line) (next : Event) (file : ℕ) → NextIs answer next → is_restart next file → ⊥
no_restart answer next file (Draws number note answer_is next_is) restart = subst (λ (e : Event). is_restart e file) next_is restart
no_restart answer next file (Finishes number next_is) restart = subst (λ (e : Event). is_restart e file) next_is restart

-- it is no restart
goes_on : (answer : Line) (next : Event) (file : ℕ) → next_in_order answer ≡ Some next → is_restart next file → ⊥
goes_on answer next file is restart = no_restart answer next file (next_is answer next is) restart

-- ---- the events so far

-- The events so far, from which this one follows.
pub record Going {D W : Type 0} (leads : WorldLeading D W) (first : Event) (a : Standing D W) (next : Event) (b : Standing D W) : Type 0 where
  pub course : Course D W
  pub leads_on : LeadsOn leads a course
  pub last : standing_after a course ≡ b
  pub follow : Follow first next_in_order (events_in course)
  pub follows : event_after first next_in_order (events_in course) ≡ Some next

goes_further : {D W : Type 0} (leads : WorldLeading D W) (first : Event) (a : Standing D W) (e : Event) (b : Standing D W) (answer : Line) (c : Standing D W) (next : Event)
    → Going leads first a e b → leads b e answer c → next_in_order answer ≡ Some next → Going leads first a next c
goes_further {D} {W} leads first a e b answer c next going led is = record {
  course = record { event = e; answer = answer; after = c } ∷ going.course;
  leads_on = (subst (λ (s : Standing D W). leads s e answer c) (sym going.last) led, going.leads_on);
  last = refl;
  follow = (going.follows, going.follow);
  follows = is;
}

carries : {D W : Type 0} (leads : WorldLeading D W) (first : Event) (a : Standing D W) (e : Event) (b : Standing D W) (answer : Line) (c : Standing D W) (given : NameReply)
    → Going leads first a e b → leads b e answer c → next_in_order answer ≡ None → given ≡ reply_of answer → Carries leads first a given c
carries {D} {W} leads first a e b answer c given going led none is = record {
  course = record { event = e; answer = answer; after = c } ∷ going.course;
  leads_on = (subst (λ (s : Standing D W). leads s e answer c) (sym going.last) led, going.leads_on);
  last = refl;
  is_order = record { follow = (going.follows, going.follow); none_follows = none; reply_is = is };
}

-- An order that began in `a` is carried out; this event is next, in `b`.
pub record Carrying {D W : Type 0} (state : D → DiskState) (to_come : W → ℕ → ℕ) (now : ℕ) (first : Event) (a : Standing D W) (next : Event) (b : Standing D W) : Type 0 where
  pub going : (lines : List PropLine) → AreListsOf a.world.keys.acls lines → Going (Leads state to_come lines now) first a next b
  pub lists : (lines : List PropLine) → AreListsOf a.world.keys.acls lines → AreListsOf b.world.keys.acls lines
  pub ready : IsDeskReady state b
  pub goes_on : (file : ℕ) → is_restart next file → ⊥

-- the event leads on, under any lines with the lists
abbrev pub LeadsSo : {D W : Type 0} → (D → DiskState) → (W → ℕ → ℕ) → ℕ → Standing D W → Event → Line → Standing D W → Type 0
LeadsSo state to_come now b e answer c = (lines : List PropLine) → AreListsOf b.world.keys.acls lines → Leads state to_come lines now b e answer c

pub carrying_begins : {D W : Type 0} (state : D → DiskState) (to_come : W → ℕ → ℕ) (now : ℕ) (first : Event) (a : Standing D W) → IsDeskReady state a → ((file : ℕ) → is_restart first file → ⊥) → Carrying state to_come now first a first a
carrying_begins state to_come now first a ready goes = record {
  going = λ lines lists. record { course = []; leads_on = tt; last = refl; follow = tt; follows = refl };
  lists = λ lines lists. lists;
  ready = ready;
  goes_on = goes;
}

pub carrying_on : {D W : Type 0} (state : D → DiskState) (to_come : W → ℕ → ℕ) (now : ℕ) (first : Event) (a : Standing D W) (e : Event) (b : Standing D W) (answer : Line) (c : Standing D W) (next : Event)
    → Carrying state to_come now first a e b → LeadsSo state to_come now b e answer c → IsDeskReady state c → next_in_order answer ≡ Some next → Carrying state to_come now first a next c
carrying_on {D} {W} state to_come now first a e b answer c next carrying leads ready is = record {
  going = λ lines lists. goes_further (Leads state to_come lines now) first a e b answer c next (carrying.going lines lists) (leads lines (carrying.lists lines lists)) is;
  lists = λ lines lists.
      let now_lists = carrying.lists lines lists in
      subst (λ acls. AreListsOf acls lines) (sym (leads lines now_lists).lists) now_lists;
  ready = ready;
  goes_on = λ file restart. goes_on answer next file is restart;
}

pub carrying_fewer : {D W : Type 0} (state : D → DiskState) (to_come : W → ℕ → ℕ) (now : ℕ) (b : Standing D W) (e : Event) (answer : Line) (c : Standing D W) (next : Event)
    → IsDeskReady state b → LeadsSo state to_come now b e answer c → next_in_order answer ≡ Some next → events_left next < events_left e
carrying_fewer state to_come now b e answer c next ready leads is =
    let s = leads ready.0 ready.1.lists in
    fewer_left ready.0 (world_of b.world) (to_come b.words) now e _ _ answer s.drawn s.logged (world_of c.world) next s.step.step is

pub carried : {D W : Type 0} (state : D → DiskState) (to_come : W → ℕ → ℕ) (now : ℕ) (first : Event) (a : Standing D W) (e : Event) (b : Standing D W) (answer : Line) (c : Standing D W) (given : NameReply)
    → Carrying state to_come now first a e b → LeadsSo state to_come now b e answer c → next_in_order answer ≡ None → given ≡ reply_of answer
    → (lines : List PropLine) → AreListsOf a.world.keys.acls lines → Carries (Leads state to_come lines now) first a given c
carried state to_come now first a e b answer c given carrying leads none is lines lists =
    carries (Leads state to_come lines now) first a e b answer c given (carrying.going lines lists) (leads lines (carrying.lists lines lists)) none is

-- ---- whole orders

-- the lists stay
lists_along : {D W : Type 0} (state : D → DiskState) (to_come : W → ℕ → ℕ) (lines : List PropLine) (now : ℕ) (a : Standing D W) (course : Course D W)
    → LeadsOn (Leads state to_come lines now) a course → AreListsOf a.world.keys.acls lines → AreListsOf (standing_after a course).world.keys.acls lines
lists_along state to_come lines now a [] leads lists = lists
lists_along state to_come lines now a (p ∷ earlier) leads lists =
    subst (λ acls. AreListsOf acls lines) (sym leads.0.lists) (lists_along state to_come lines now a earlier leads.1 lists)

-- the zone is driven, under any lines with the lists
abbrev pub DrivesSo : {D W : Type 0} → (D → DiskState) → (W → ℕ → ℕ) → ℕ → Option NPath → Standing D W → Standing D W → Type 0
DrivesSo state to_come now zone b c = (lines : List PropLine) → AreListsOf b.world.keys.acls lines → DrivesOn state to_come lines now zone b c

passes_from : {D W : Type 0} (state : D → DiskState) (to_come : W → ℕ → ℕ) (now : ℕ) (a : Standing D W) (user : List ℕ) (asked : NameOrder) (given : NameReply) (b c : Standing D W) (lines : List PropLine)
    → Carries (Leads state to_come lines now) (first_event user asked) a given b → DrivesSo state to_come now (submitted_by asked given) b c → AreListsOf a.world.keys.acls lines → Passes state to_come lines now a user (OfNames asked given) c
passes_from {D} {W} state to_come now a user asked given b c lines carries drives lists = record {
  course = carries.course;
  leads_on = carries.leads_on;
  is_order = carries.is_order;
  drives_on =
      let kept = lists_along state to_come lines now a carries.course carries.leads_on lists in
      let drives_there = subst (λ (s : Standing D W). DrivesSo state to_come now (submitted_by asked given) s c) (sym carries.last) drives in
      drives_there lines kept;
}

-- an order of the namesystem, and the drive after it
pub passes : {D W : Type 0} (state : D → DiskState) (to_come : W → ℕ → ℕ) (now : ℕ) (a : Standing D W) (user : List ℕ) (asked : NameOrder) (first : Event) (given : NameReply) (b : Standing D W) (driven : Option NPath) (c : Standing D W)
    → first ≡ first_event user asked → ((lines : List PropLine) → AreListsOf a.world.keys.acls lines → Carries (Leads state to_come lines now) first a given b)
    → driven ≡ submitted_by asked given → DrivesSo state to_come now driven b c
    → (lines : List PropLine) → AreListsOf a.world.keys.acls lines → Passes state to_come lines now a user (OfNames asked given) c
passes state to_come now a user asked first given b driven c first_is carries driven_is drives lines lists =
    passes_from state to_come now a user asked given b c lines
    (subst (λ (e : Event). Carries (Leads state to_come lines now) e a given b) first_is (carries lines lists))
    (subst (λ (z : Option NPath). DrivesSo state to_come now z b c) driven_is drives)
    lists

-- a call of the key management service is one event
pub happens_call : {D W : Type 0} (state : D → DiskState) (to_come : W → ℕ → ℕ) (now : ℕ) (a : Standing D W) (user : List ℕ) (asked : KmsCall) (answer : Line) (given : KmsReply) (b : Standing D W)
    → LeadsSo state to_come now a (event.Kms user asked) answer b → answer ≡ line.Kms given → HappensAtDesk state to_come a user (OfKeys asked given) b
happens_call state to_come now a user asked answer given b leads is = record {
  now = now;
  passes = λ lines lists. record {
    course = record { event = event.Kms user asked; answer = answer; after = b } ∷ [];
    leads_on = (leads lines lists, tt);
    is_order = ap (λ (l : Line). (event.Kms user asked, l) ∷ []) is;
    drives_on = refl;
  };
}

-- a look is no event
pub happens_look : {D W : Type 0} (state : D → DiskState) (to_come : W → ℕ → ℕ) (a : Standing D W) (user : List ℕ) (page : Page) (counts : CallCounts) → HappensAtDesk state to_come a user (OfLook page counts) a
happens_look state to_come a user page counts = record {
  now = 0;
  passes = λ lines lists. record { course = []; leads_on = tt; is_order = refl; drives_on = refl };
}
