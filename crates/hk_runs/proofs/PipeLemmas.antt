-- The transactions of a connection, and a connection as a whole.
use Rattle.std.proofs.Common.{◌≡◌, ◌≢◌, inl, inr, ℕ, List, [], ◌∷◌, ◌++◌, append_assoc, refl, ap, sym, ◌∙◌, subst, IsTrue, Bool, None, Option, Some, arith}
use Rattle.std.specs.List.{AllByRecursion}
use Rattle.std.proofs.lemmas.List.{map-append}
use Rattle.hk_base.specs.Disk.{DiskState, Tells}
use Rattle.name_calls.specs.declared.paths.NPath.{NPath}
use Rattle.name_calls.specs.Paths.{path_text}
use Rattle.prop_text.specs.declared.lines.PropLine.{PropLine}
use Rattle.prop_text.specs.declared.props.Props.{Props}
use Rattle.hk_events.specs.declared.event.Event.TheVariants as event
use Rattle.world_run.specs.Acknowledged.{Acknowledged, LeavesBoth, RunBoth}
use Rattle.world_run.specs.World.{RunningWorld, WorldState, first_world, world_of}
use Rattle.world_run.specs.Drives.{Course, IsCourse, Leads, Standing, WorldLeading, next_event, standing_after}
use Rattle.world_run.specs.Keeps.{BeginsFirstWorld, LeftByStarts}
use Rattle.hk_base.specs.declared.ended.Ended.{Ended}
use Rattle.hk_base.specs.declared.ended.Ended.TheVariants as ended
use Rattle.hk_serve.specs.Served.{Served}
use Rattle.hk_serve.specs.Transactions.{Transaction}
use Rattle.world_desk.specs.Orders.{AnsweredEvent, Follow, IsDrive, IsOrder, submitted}
use Rattle.world_desk.specs.Worlds.{DrivesOn, HappensAtDesk, LeadsOn, Passes, events_in}
use Rattle.http_wire.specs.Reading.{ahead}
use Rattle.hk_runs.specs.Pipe.{Converses, IsTransactionOf, Pipe, PipeUnder, answered_in, connection_status}
use Rattle.hk_runs.specs.Logs.{NoRestart, opened_logs}
use Rattle.command_io.specs.Ends.{ended_by, ended_by_props}
use Rattle.command_io.proofs.UsageLemmas.{end_is_no_usage}
use Rattle.hk_runs.specs.Run.{Happened, History, Runs, world_after}
use Rattle.hk_runs.specs.Steps.{HasLists}
use Rattle.hk_runs.proofs.BeganLemmas.{apart_kept, last_kept, promise_kept, survives_kept}
use Rattle.hk_runs.proofs.FollowLemmas.{ServedSo, served_so}
use Rattle.hk_runs.proofs.LivedLemmas.{Lived, happened_in, has_lists, lived_more, lived_nothing, rests_after, tells_now, weaker}

-- the state in which a connection began: the disk, the services, and the words to come
pub record Opened : Type 1 where
  pub disk : DiskState
  pub services : RunningWorld
  pub words : ℕ → ℕ

-- The events so far, under properties of these lines, have led to this standing.
abbrev TalksAs : {D W : Type 0} → (D → DiskState) → (W → ℕ → ℕ) → List PropLine → Opened → Standing D W → History → Type 0
TalksAs state to_come props o v history = Lived props o.disk (state v.disk) o.services o.words v.world (to_come v.words) history

-- all events of a history happened at this moment
abbrev AreAt : ℕ → History → Type 0
AreAt now history = AllByRecursion (λ (h : Happened). h.now ≡ now) history

all_at : (now : ℕ) (later earlier : History) → AreAt now later → AreAt now earlier → AreAt now (later ++ earlier)
all_at now [] earlier here there = there
all_at now (h ∷ later) earlier here there = (here.0, all_at now later earlier here.1 there)

-- a course as a history
pub record Grown {D W : Type 0} (state : D → DiskState) (to_come : W → ℕ → ℕ) (props : List PropLine) (o : Opened) (now : ℕ) (earlier : History) (events : List AnsweredEvent) (b : Standing D W) : Type 0 where
  pub happened : History
  pub at_once : AreAt now happened
  pub answered : answered_in happened ≡ events
  pub talked : TalksAs state to_come props o b (happened ++ earlier)

grown : {D W : Type 0} (state : D → DiskState) (to_come : W → ℕ → ℕ) (props : List PropLine) (o : Opened) (now : ℕ) (earlier : History) (a : Standing D W) (course : Course D W)
    → TalksAs state to_come props o a earlier → LeadsOn (Leads state to_come props now) a course → Grown state to_come props o now earlier (events_in course) (standing_after a course)
grown state to_come props o now earlier a [] so leads = record { happened = []; at_once = tt; answered = refl; talked = so }
grown state to_come props o now earlier a (p ∷ course) so leads =
    let g = grown state to_come props o now earlier a course so leads.1 in
    let b = standing_after a course in
    record {
      happened = happened_in leads.0 ∷ g.happened;
      at_once = (refl, g.at_once);
      answered = ap (λ (l : List AnsweredEvent). (p.event, p.answer) ∷ l) g.answered;
      talked = lived_more props o.disk (state b.disk) (state p.after.disk) o.services b.world p.after.world o.words (to_come b.words) (to_come p.after.words) (g.happened ++ earlier) now p.event p.answer g.talked leads.0;
    }

-- a drive is a course, whose events follow one another
leads_along : {D W : Type 0} (leads : WorldLeading D W) (path : List ℕ) (a : Standing D W) (course : Course D W) → IsCourse leads path a course → LeadsOn leads a course
leads_along leads path a [] is = tt
leads_along leads path a (p ∷ course) is = (is.1, leads_along leads path a course is.2)

follow_along : {D W : Type 0} (leads : WorldLeading D W) (path : List ℕ) (a : Standing D W) (course : Course D W) → IsCourse leads path a course → Follow (event.Walk path) (next_event path) (events_in course)
follow_along leads path a [] is = tt
follow_along leads path a (p ∷ []) is = (is.0, tt)
follow_along leads path a (p ∷ (q ∷ course)) is = (is.0, follow_along leads path a (q ∷ course) is.2)

-- the drive after a submission, as a history
pub record Driven {D W : Type 0} (state : D → DiskState) (to_come : W → ℕ → ℕ) (props : List PropLine) (o : Opened) (now : ℕ) (earlier : History) (zone : Option NPath) (b : Standing D W) : Type 0 where
  pub happened : History
  pub at_once : AreAt now happened
  pub is_drive : IsDrive zone (answered_in happened)
  pub talked : TalksAs state to_come props o b (happened ++ earlier)

driven : {D W : Type 0} (state : D → DiskState) (to_come : W → ℕ → ℕ) (props : List PropLine) (o : Opened) (now : ℕ) (earlier : History) (zone : Option NPath) (a b : Standing D W)
    → TalksAs state to_come props o a earlier → DrivesOn state to_come props now zone a b → Driven state to_come props o now earlier zone b
driven {D} {W} state to_come props o now earlier None a b so same = record {
  happened = [];
  at_once = tt;
  is_drive = refl;
  talked = subst (λ (s : Standing D W). TalksAs state to_come props o s earlier) (sym same) so;
}
driven {D} {W} state to_come props o now earlier (Some zone) a b so drives =
    let d = drives.1 in
    let leads = Leads state to_come props now in
    let g = grown state to_come props o now earlier a d.course so (leads_along leads (path_text zone) a d.course d.is_course) in
    record {
      happened = g.happened;
      at_once = g.at_once;
      is_drive = subst (λ (l : List AnsweredEvent). IsDrive (Some zone) l) (sym g.answered) (follow_along leads (path_text zone) a d.course d.is_course);
      talked = subst (λ (s : Standing D W). TalksAs state to_come props o s (g.happened ++ earlier)) d.last g.talked;
    }

-- one transaction more: what it adds to the history
pub record AskedMore {D W : Type 0} (state : D → DiskState) (to_come : W → ℕ → ℕ) (props : List PropLine) (o : Opened) (earlier : History) (user : List ℕ) (done : Transaction) (b : Standing D W) : Type 0 where
  pub later : History
  pub asks : IsTransactionOf earlier user done later
  pub talked : TalksAs state to_come props o b later

asked_more : {D W : Type 0} (state : D → DiskState) (to_come : W → ℕ → ℕ) (props : List PropLine) (o : Opened) (now : ℕ) (earlier : History) (user : List ℕ) (done : Transaction) (a b : Standing D W)
    → TalksAs state to_come props o a earlier → Passes state to_come props now a user done b → AskedMore state to_come props o earlier user done b
asked_more {D} {W} state to_come props o now earlier user done a b so passes =
    let own = grown state to_come props o now earlier a passes.course so passes.leads_on in
    let after = driven state to_come props o now (own.happened ++ earlier) (submitted done) (standing_after a passes.course) b own.talked passes.drives_on in
    record {
      later = (after.happened ++ own.happened) ++ earlier;
      asks = record {
        now = now;
        happened = after.happened ++ own.happened;
        at_once = all_at now after.happened own.happened after.at_once own.at_once;
        events = record {
          own = answered_in own.happened;
          driven = answered_in after.happened;
          events_are = map-append (λ (h : Happened). (h.event, h.reply)) after.happened own.happened;
          is_order = subst (λ (l : List AnsweredEvent). IsOrder user done l) (sym own.answered) passes.is_order;
          is_drive = after.is_drive;
        };
        grows = refl;
      };
      talked = subst (λ (l : History). TalksAs state to_come props o b l) (sym (append_assoc after.happened own.happened earlier)) after.talked;
    }

-- a connection was served, once both logs were opened
pub converses : {D W : Type 0} (state : D → DiskState) (to_come : W → ℕ → ℕ) (props : Props) (old : DiskState) (v v' : Standing D W) (left left' written now : Option (List ℕ)) (unused : List ℕ) (how : Ended)
    → BeginsFirstWorld props.sizes old (state v.disk) v.world → (Tells old → LeavesBoth old (state v.disk) (LeftByStarts old)) → RunBoth old (state v.disk) → HasLists v.world props.lines
    → Served (HappensAtDesk state to_come) (record { ahead = left; desk = v; written = written }) (record { ahead = ahead unused left'; desk = v'; written = now }) how
    → Converses props old (state v'.disk) (to_come v.words) (to_come v'.words) left left' written now how
converses {D} {W} state to_come props old v v' left left' written now unused how b moments run has served = record {
  table = b.table;
  names = b.names;
  before = mid.faults;
  history = h;
  unused = unused;
  served = so.served;
  runs = subst (λ (T : Type 0). Runs props.lines T (first_world props.sizes b.table b.names) words mid.faults h) (ap (λ (t : Bool). IsTrue t) run.tells)
      (subst (λ (w : WorldState). Runs props.lines (Tells mid) w words mid.faults h) b.first talked.runs);
  rest = talked.rest;
  began = run.faults;
  ended = omega (arith, talked.faults_are);
  on_disk = λ telling.
      let log = b.log telling in
      let tells = tells_now old mid run telling in
      record {
        commands = log.commands;
        ops = log.ops;
        used = log.used;
        keys = log.keys;
        edits = log.edits;
        keys_room = log.keys_room;
        names_room = log.names_room;
        moments = survives_kept props.sizes old mid (state v'.disk) v.world b telling words h NoRestart (found telling) (moments telling) run (weaker (λ image left. inl left) (talked.survives tells (found telling) log.holds));
        last = λ image is. last_kept props.sizes old mid (state v'.disk) v.world b telling words h NoRestart (found telling) image
            (inl (rests_after props.lines mid (state v'.disk) v.world v'.world words (to_come v'.words) h talked tells b.rests (found telling) log.holds image is));
      };
  promise = λ telling. promise_kept props.sizes old mid (state v'.disk) v.world b telling words h NoRestart (found telling) (talked.files_open (tells_now old mid run telling));
  apart = λ telling. apart_kept props.sizes old mid (state v'.disk) v.world b telling words h NoRestart (found telling) (talked.draws_apart (tells_now old mid run telling));
  reads = λ telling.
      let log = b.log telling in (
        v'.world,
        subst (λ (w : WorldState). world_of v'.world ≡ world_after w h) b.first talked.world_is,
        talked.stands (tells_now old mid run telling) (found telling) log.holds,
      );
}
  where
    mid : DiskState
    mid = state v.disk

    words : ℕ → ℕ
    words = to_come v.words

    o : Opened
    o = record { disk = mid; services = v.world; words = words }

    so : ServedSo IsTransactionOf (TalksAs state to_come props.lines o) (record { ahead = left; desk = v; written = written }) (record { ahead = ahead unused left'; desk = v'; written = now }) how []
    so = served_so (HappensAtDesk state to_come) IsTransactionOf (TalksAs state to_come props.lines o)
        (λ d e user done next r happens.
        let passes = happens.passes props.lines (has_lists v.world d.world props.lines r.lists has) in
        let more = asked_more state to_come props.lines o happens.now e user done d next r passes in
        (more.later, (more.asks, more.talked)))
        (record { ahead = left; desk = v; written = written }) (record { ahead = ahead unused left'; desk = v'; written = now }) how [] (lived_nothing props.lines mid v.world words words (λ k. refl)) served

    h : History
    h = so.then

    talked : TalksAs state to_come props.lines o v' h
    talked = so.follows

    found : Tells old → Acknowledged
    found telling = let log = b.log telling in opened_logs log.commands b.table log.ops b.names

-- no connection has the status of refused words

connection_usage : (how : Ended) → connection_status how ≡ 2 → ⊥
connection_usage ended.End h = absurd cc
connection_usage ended.Closed h = absurd cc
connection_usage ended.TooLong h = absurd cc
connection_usage ended.Wire h = absurd cc
connection_usage ended.ReadFault h = absurd cc
connection_usage ended.WriteFault h = absurd cc
connection_usage ended.NoMemory h = absurd cc

pub pipe_is_no_usage : (same_disk same : Type 0) (old new : DiskState) (acls acls' : Option (List ℕ)) (words words' : ℕ → ℕ) (left left' written now : Option (List ℕ)) (status : ℕ)
    → Pipe same_disk same old new acls acls' words words' left left' written now status → status ≢ 2
pipe_is_no_usage same_disk same old new acls acls' words words' left left' written now status (inl refused) two = end_is_no_usage (ended_by_props refused.fault) (sym refused.status_is ∙ two)
pipe_is_no_usage same_disk same old new acls acls' words words' left left' written now status (inr pipes) two = go pipes.pipe
  where
    go : PipeUnder pipes.props same old new words words' left left' written now status → ⊥
    go (inl cannot) = end_is_no_usage (ended_by cannot.file cannot.fault) (sym cannot.status_is ∙ two)
    go (inr connects) = connection_usage connects.how (sym connects.status_is ∙ two)
