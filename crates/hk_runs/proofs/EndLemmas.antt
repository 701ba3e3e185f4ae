-- How a replay stops.
use Rattle.std.proofs.Common.{◌≡◌, ◌⊎◌, ⊎_elim, inl, inr, ℕ, zero, suc, ◌+◌, ◌<◌, ◌≤◌, ◌^◌, Bool, true, false, List, [], ◌∷◌, ◌++◌, length, take, refl, ap, sym, ◌∙◌, subst, IsTrue, Option, None, Some, arith, append_assoc, append-nil, length-append}
use Rattle.std.specs.List.{list_all, count_by}
use Rattle.std.specs.Io.KnownBytes.{Appends, Consumes, IsAtEnd, prepend_known}
use Rattle.std.proofs.KnownBytes.{Appends-trans, Consumes-trans}
use Rattle.std.proofs.Math.Seq.{take-append_seam}
use Rattle.hk_base.specs.Disk.{DiskState, Image, Tells}
use Rattle.hk_base.specs.Faults.{Rose}
use Rattle.hk_base.specs.Reading.{IsMore}
use Rattle.frame_log.specs.declared.fault.StartFault.{StartFault}
use Rattle.frame_log.specs.declared.fault.StartFault.TheVariants as start
use Rattle.prop_text.specs.declared.lines.PropLine.{PropLine}
use Rattle.replay_text.specs.Events.{IsBad, SpellsLine, longest_line}
use Rattle.replay_text.specs.Transcript.{line_text}
use Rattle.hk_events.specs.declared.event.Event.{Event}
use Rattle.hk_events.specs.declared.event.Event.TheVariants as event
use Rattle.world_run.specs.declared.fault.WorldFault.{WorldFault}
use Rattle.world_run.specs.Acknowledged.{Acknowledged, HoldsLogs, also}
use Rattle.world_run.specs.Keeps.{LeftByRestart, is_restart, last_opening}
use Rattle.world_run.specs.Linked.{LinkedWorld}
use Rattle.world_run.specs.Own.{SurvivesRestart}
use Rattle.world_run.specs.World.{WorldState, world_of}
use Rattle.command_io.specs.declared.lines.LineEnd.{LineEnd}
use Rattle.command_io.specs.declared.lines.LineEnd.TheVariants as line_end
use Rattle.command_io.specs.declared.ends.ReplayEnd.{ReplayEnd}
use Rattle.command_io.specs.declared.ends.ReplayEnd.TheVariants as ended
use Rattle.hk_runs.specs.declared.session.LineOutcome.{LineOutcome}
use Rattle.hk_runs.specs.declared.session.LineOutcome.TheVariants.{Played, BadLine, Unread, Unanswered, Unwritten, Unopened}
use Rattle.command_io.specs.Lines.{is_line, is_lf, line_used, lines_of, text_of}
use Rattle.hk_runs.specs.Logs.{HoldsLogsOf, LeftByStop, SurvivesStop}
use Rattle.hk_runs.specs.PlayedLines.{PlayedLine, events_of_lines, lines_in, transcript}
use Rattle.hk_runs.specs.Run.{History, hidden_in, logged_in, world_after}
use Rattle.command_io.specs.Ends.{ended_by}
use Rattle.hk_runs.specs.Replay.{BadNext, BeginsWithin, ComesNext, CutAt, HasProperties, IsCutShort, IsOpeningSpent, IsPrinted, NextSpells, ReadsLogsAt, RestartStops, StartsWith, StopsAt, longest_input}
use Rattle.hk_runs.specs.Steps.{Caused, HasLists, LinePlayed, Next, NextSo, PlaysEvent, PlaysSo, Ran, Read, ReplayStand, StaysQuiet, StopsAtRestart, StopsReading, Untouched, View, counts, end_of_play}
use Rattle.hk_runs.proofs.HistoryLemmas.{Begin, Course, SoFar, count_more, course_event, course_quiet, course_untouched, event_line, quiet_line, so_far_event, so_far_quiet}
use Rattle.hk_runs.proofs.LivedLemmas.{Lived, has_lists, leaves_on, rests_after, run_on, tells_now, weaker}
use Rattle.command_io.proofs.SplitLemmas.{split_text, split_last, split_on, split_ended, parts, count_lf}

-- the lines of the input

-- the rest after the bytes used
after_text : (left ahead : Option (List ℕ)) (bytes : List ℕ) → Consumes left ahead bytes → (all : List ℕ) → left ≡ Some all → (rest : List ℕ) × (ahead ≡ Some rest) × (all ≡ bytes ++ rest)
after_text None ahead bytes consumed all is = absurd cc
after_text (Some xs) None bytes consumed all is = absurd consumed
after_text (Some xs) (Some ys) bytes consumed all is = let same : all ≡ xs = cc in (ys, refl, same ∙ consumed)

-- the lines that were read, and what is ahead
record IsAhead (left ahead : Option (List ℕ)) (lines : List (List ℕ)) : Type 0 where
  whole : IsTrue (list_all is_line lines)
  consumed : Consumes left ahead (text_of lines)

starts : (left ahead : Option (List ℕ)) (lines : List (List ℕ)) → IsAhead left ahead lines → (all : List ℕ) → left ≡ Some all → StartsWith all lines
starts left ahead lines so all is =
    let rest = after_text left ahead (text_of lines) so.consumed all is in
    (lines_of rest.0, ap lines_of rest.2 ∙ split_text lines rest.0 so.whole)

-- the next line is this one, and is ended
next_is : (left before ahead : Option (List ℕ)) (lines : List (List ℕ)) (line : List ℕ) → IsAhead left before lines → is_line line ≡ true → Consumes before ahead (line ++ 10 ∷ [])
    → (all : List ℕ) → left ≡ Some all → (more : List (List ℕ)) × (lines_of all ≡ lines ++ line ∷ more)
next_is left before ahead lines line so is consumed all telling =
    let rest = after_text left ahead _ (Consumes-trans left before ahead _ _ so.consumed consumed) all telling in (
      lines_of rest.0,
      ap lines_of (rest.2 ∙ append_assoc (text_of lines) (line ++ 10 ∷ []) rest.0) ∙ split_text lines ((line ++ 10 ∷ []) ++ rest.0) so.whole
          ∙ ap (λ l. lines ++ l) (ap lines_of (append_assoc line (10 ∷ []) rest.0) ∙ split_ended line rest.0 is),
    )

-- the same of the last line, and the input is not too long
last_is : (left before ahead : Option (List ℕ)) (lines : List (List ℕ)) (line : List ℕ) (used0 used : ℕ) → IsAhead left before lines → is_line line ≡ true → Consumes before ahead line → used0 ≡ length (text_of lines)
    → used ≡ used0 + length line → used ≤ 2 ^ 40 → IsAtEnd ahead → (all : List ℕ) → left ≡ Some all → StopsAt ended.Done all (lines ++ line ∷ [])
last_is left before ahead lines line used0 used so is consumed used0_is used_is bounded end all telling =
    let rest = after_text left ahead _ (Consumes-trans left before ahead _ _ so.consumed consumed) all telling in
    let none : rest.0 ≡ [] = subst IsAtEnd rest.1 end in
    let whole : all ≡ text_of lines ++ line = rest.2 ∙ ap (λ r. (text_of lines ++ line) ++ r) none ∙ append-nil (text_of lines ++ line) in (
      ap lines_of whole ∙ split_text lines line so.whole ∙ ap (λ l. lines ++ l) (split_last line is),
      omega (arith, ap length whole, length-append (text_of lines) line, used0_is, used_is, bounded),
    )

-- the next line, ended or the last one
record IsNext (left : Option (List ℕ)) (lines : List (List ℕ)) (line : List ℕ) : Type 0 where
  next : (all : List ℕ) → left ≡ Some all → (more : List (List ℕ)) × (lines_of all ≡ lines ++ line ∷ more)

begins : (left : Option (List ℕ)) (lines : List (List ℕ)) (line : List ℕ) → IsNext left lines line → (all : List ℕ) → left ≡ Some all → StartsWith all (lines ++ line ∷ [])
begins left lines line n all telling = let next = n.next all telling in (next.0, next.1 ∙ sym (append_assoc lines (line ∷ []) next.0))

too_long_is_bad : (line : List ℕ) → longest_line < length line → IsBad line
too_long_is_bad [] long = absurd (omega arith)
too_long_is_bad (b ∷ bs) long = record {
  not_quiet = λ quiet. absurd (omega (arith, quiet.1));
  no_event = λ event spells. absurd (omega (arith, spells.short));
}

-- a bad line has a byte
bad_has_byte : (line : List ℕ) → IsBad line → 0 < length line
bad_has_byte [] bad = absurd (bad.not_quiet tt)
bad_has_byte (b ∷ bs) bad = omega arith

too_long : (left before ahead : Option (List ℕ)) (lines : List (List ℕ)) (line : List ℕ) → IsAhead left before lines → is_line line ≡ true → Consumes before ahead line → length line ≡ 1048577 → (0 < length line → BeginsWithin lines)
    → (all : List ℕ) → left ≡ Some all → BadNext all lines
too_long left before ahead lines line so is consumed long within all telling =
    let rest = after_text left ahead _ (Consumes-trans left before ahead _ _ so.consumed consumed) all telling in
    let more = parts rest.0 in
    let split : lines_of all ≡ lines ++ (line ++ more.0) ∷ more.1 =
    ap lines_of (rest.2 ∙ append_assoc (text_of lines) line rest.0) ∙ split_text lines (line ++ rest.0) so.whole ∙ ap (λ l. lines ++ l) (split_on line rest.0 more.0 more.1 is more.2) in
    inl (line ++ more.0, more.1, split, too_long_is_bad (line ++ more.0) (omega (arith, length-append line more.0)), within (omega arith))

past : (left before ahead : Option (List ℕ)) (lines : List (List ℕ)) (line : List ℕ) (used0 used : ℕ) → IsAhead left before lines → is_line line ≡ true → Consumes before ahead line → used0 ≡ length (text_of lines)
    → used ≡ used0 + length line → used ≡ 2 ^ 40 → IsMore ahead → (all : List ℕ) → left ≡ Some all → BadNext all lines
past left before ahead lines line used0 used so is consumed used0_is used_is long more all telling =
    let rest = after_text left ahead _ (Consumes-trans left before ahead _ _ so.consumed consumed) all telling in
    let front = text_of lines ++ line in
    let some : 0 < length rest.0 = subst IsMore rest.1 more in
    let whole : length front ≡ longest_input = omega (arith, length-append (text_of lines) line, used0_is, used_is, long) in
    inr (
      starts left before lines so all telling,
      record {
        long = omega (arith, ap length rest.2, length-append front rest.0, some, whole);
        place = ap (count_by is_lf) (ap (take longest_input) rest.2 ∙ ap (λ n. take n (front ++ rest.0)) (sym whole) ∙ take-append_seam front rest.0) ∙ count_lf lines line so.whole is;
      },
    )

-- the place where the replay stops

reads_at : (stop : ReplayEnd) (left : Option (List ℕ)) (lines : List (List ℕ)) (d : DiskState) (done : Acknowledged) (w : WorldState) → HoldsLogsOf d done w → ReadsLogsAt stop left lines d done w
reads_at ended.Done left lines d done w r = r
reads_at (ended.AclRefused number) left lines d done w r = r
reads_at (ended.AclRepeated number) left lines d done w r = r
reads_at (ended.AclUnknown number) left lines d done w r = r
reads_at ended.AclTooLong left lines d done w r = r
reads_at ended.BadLine left lines d done w r = r
reads_at (ended.DamagedKeys at) left lines d done w r = tt
reads_at (ended.DamagedNames at) left lines d done w r = tt
reads_at ended.StoreFault left lines d done w r = tt
reads_at ended.NoMemory left lines d done w r = inl r
reads_at ended.ReadFault left lines d done w r = r
reads_at ended.WriteFault left lines d done w r = r
reads_at ended.Spent left lines d done w r = tt

-- a prefix of the transcript that is all of it
all_printed : (stop : ReplayEnd) (text printed : List ℕ) → text ≡ printed → IsPrinted stop text printed
all_printed ended.Done text printed is = is
all_printed (ended.AclRefused number) text printed is = is
all_printed (ended.AclRepeated number) text printed is = is
all_printed (ended.AclUnknown number) text printed is = is
all_printed ended.AclTooLong text printed is = is
all_printed ended.BadLine text printed is = is
all_printed (ended.DamagedKeys at) text printed is = is
all_printed (ended.DamagedNames at) text printed is = is
all_printed ended.StoreFault text printed is = is
all_printed ended.NoMemory text printed is = ([], append-nil text ∙ is)
all_printed ended.ReadFault text printed is = is
all_printed ended.WriteFault text printed is = ([], append-nil text ∙ is)
all_printed ended.Spent text printed is = is

-- an end that neither a restart nor the properties bring about
IsPlain : ReplayEnd → Type 0
IsPlain stop = ((left : Option (List ℕ)) (lines : List (List ℕ)) (w : WorldState) → RestartStops stop left lines w) × HasProperties stop

ran : (props : List PropLine) (old new : DiskState) (b : Begin) (v : View) (count : ℕ) (stop : ReplayEnd) (played : List PlayedLine) → Course props old new b v played → count ≡ length (lines_in played) → (text : List ℕ) (now : Option (List ℕ)) → IsPlain stop
    → Appends b.written now text → IsPrinted stop text (transcript (events_of_lines played)) → ((all : List ℕ) → b.left ≡ Some all → StopsAt stop all (lines_in played))
    → Ran props old new b.world b.words v.words b.left b.written now stop count
unfolding IsPlain
ran props old new b v count stop played so counted text now plain wrote printed here = record {
  played = played;
  spelled = so.spelled;
  runs = so.lived.runs;
  rest = so.lived.rest;
  kept = λ tells now done holds. record {
    moments = weaker (λ image left. inl left) (so.lived.survives tells done holds);
    last = λ image is. inl (rests_after props old new b.world v.world b.words v.words h so.lived tells now done holds image is);
    reads = reads_at stop b.left (lines_in played) new (also done (logged_in h)) (world_after (world_of b.world) h) (v.world, so.lived.world_is, so.lived.stands tells done holds);
  };
  promise = so.lived.files_open;
  apart = so.lived.draws_apart;
  run = so.lived.run;
  counted_faults = omega (arith, so.lived.faults_are);
  restart = λ tells. plain.0 b.left (lines_in played) (world_after (world_of b.world) h);
  has_properties = plain.1;
  stops = here;
  text = text;
  wrote = wrote;
  printed = printed;
  counted = counted;
}
  where
    h : History
    h = events_of_lines played

-- before a line is played
stops_before : (props : List PropLine) (old mid new : DiskState) (b : Begin) (s : ReplayStand) (stop : ReplayEnd) (v : View) (so : SoFar props old mid b s) → Untouched mid new s.view v → IsPlain stop
    → ((all : List ℕ) → b.left ≡ Some all → StopsAt stop all (lines_in so.played)) → Ran props old new b.world b.words v.words b.left b.written v.written stop s.count
stops_before props old mid new b s stop v so u plain here =
    let printed : List ℕ = transcript (events_of_lines so.played) in
    ran props old new b v s.count stop so.played (course_untouched props old mid new b s.view v so.played so.course u) so.counted printed v.written plain
    (subst (λ (x : View). Appends b.written x.written printed) (sym u.same) so.wrote) (all_printed stop printed printed refl) here

-- after a quiet line
stops_quiet : (props : List PropLine) (old mid new : DiskState) (b : Begin) (s : ReplayStand) (stop : ReplayEnd) (line : List ℕ) (v : View) (so : SoFar props old mid b s) → StaysQuiet mid new s.view line v → is_line line ≡ true → IsPlain stop
    → ((all : List ℕ) → b.left ≡ Some all → StopsAt stop all (lines_in so.played ++ line ∷ [])) → Ran props old new b.world b.words v.words b.left b.written v.written stop (s.count + 1)
stops_quiet props old mid new b s stop line v so stays is plain here =
    let printed : List ℕ = transcript (events_of_lines so.played) in
    ran props old new b v (s.count + 1) stop (quiet_line line ∷ so.played) (course_quiet props old mid new b s.view v line so.played so.course stays is) (count_more s.count (lines_in so.played) line so.counted) printed v.written plain
    (subst (λ (x : View). Appends b.written x.written printed) (sym stays.untouched.same) so.wrote) (all_printed stop printed printed refl) here

-- after a line whose event happened, of whose answer this much was written
stops_behind : (props : List PropLine) (old mid new : DiskState) (b : Begin) (s : ReplayStand) (stop : ReplayEnd) (line : List ℕ) (v : View) (text : List ℕ) (so : SoFar props old mid b s) → (plays : PlaysEvent props mid new s.view line v)
    → is_line line ≡ true → IsPlain stop → Appends s.view.written v.written text
    → IsPrinted stop (transcript (events_of_lines so.played) ++ text) (transcript (events_of_lines so.played) ++ line_text (s.view.events + 1) plays.reply)
    → ((all : List ℕ) → b.left ≡ Some all → StopsAt stop all (lines_in so.played ++ line ∷ []))
    → Ran props old new b.world b.words v.words b.left b.written v.written stop (s.count + 1)
stops_behind props old mid new b s stop line v text so plays is plain wrote printed here =
    let before : List ℕ = transcript (events_of_lines so.played) in
    ran props old new b v (s.count + 1) stop (event_line plays ∷ so.played) (course_event props old mid new b s.view v line so.played so.course plays is) (count_more s.count (lines_in so.played) line so.counted) (before ++ text) v.written plain
    (Appends-trans b.written s.view.written v.written _ _ so.wrote wrote) (subst (λ (n : ℕ). IsPrinted stop (before ++ text) (before ++ line_text (n + 1) plays.reply)) so.course.numbered printed) here

-- at a restart that could not open its log

-- which restart it was
which_restart : (e : Event) (file : ℕ) → is_restart e file → ((e ≡ event.RestartKms) × (file ≡ 0)) ⊎ ((e ≡ event.RestartName) × (file ≡ 1))
which_restart (event.Kms user c) file r = absurd r
which_restart event.Ticket file r = absurd r
which_restart (event.Deposit n) file r = absurd r
which_restart event.RestartKms file r = inl (refl, r)
which_restart event.RestartName file r = inr (refl, r)
which_restart (event.Mkdir user path) file r = absurd r
which_restart (event.Delete user path recursive) file r = absurd r
which_restart (event.Rename user path to) file r = absurd r
which_restart (event.Info user path) file r = absurd r
which_restart (event.List user path) file r = absurd r
which_restart (event.Allow user path) file r = absurd r
which_restart (event.Disallow user path) file r = absurd r
which_restart (event.Snap user path name) file r = absurd r
which_restart (event.Unsnap user path name) file r = absurd r
which_restart (event.Cancel user path) file r = absurd r
which_restart (event.Status user path) file r = absurd r
which_restart (event.Zones user) file r = absurd r
which_restart (event.AskCreate user path) file r = absurd r
which_restart (event.AskZone user path key) file r = absurd r
which_restart (event.AskSubmit user path) file r = absurd r
which_restart (event.Draw n) file r = absurd r
which_restart (event.Finish n) file r = absurd r
which_restart (event.Walk path) file r = absurd r
which_restart (event.Serve n) file r = absurd r
which_restart (event.Deliver n) file r = absurd r
which_restart (event.GiveUp n) file r = absurd r

-- the last opening of its log is used
spent_is : (left : Option (List ℕ)) (lines : List (List ℕ)) (e : Event) (file : ℕ) (w : WorldState) (kept : Bool) → is_restart e file → ComesNext left lines e → last_opening w e kept ≡ 4294967295 → IsOpeningSpent left lines w
spent_is left lines e file w kept r next is =
    ⊎_elim
    (λ keys. inl ((kept, ap (λ (x : Event). last_opening w x kept) (sym keys.0) ∙ is), subst (ComesNext left lines) keys.0 next))
    (λ names. inr ((kept, ap (λ (x : Event). last_opening w x kept) (sym names.0) ∙ is), subst (ComesNext left lines) names.0 next))
    (which_restart e file r)

-- what an end by a fault of a log is

unread : (file : ℕ) (f : StartFault) (left : Option (List ℕ)) (lines : List (List ℕ)) (d : DiskState) (done : Acknowledged) (w : WorldState) → IsCutShort left lines → ReadsLogsAt (ended_by file f) left lines d done w
unread zero (start.Damaged at) left lines d done w cut = tt
unread (suc n) (start.Damaged at) left lines d done w cut = tt
unread file start.StoreFault left lines d done w cut = tt
unread file start.NoMemory left lines d done w cut = inr cut
unread file start.Spent left lines d done w cut = tt

has : (file : ℕ) (f : StartFault) → HasProperties (ended_by file f)
has zero (start.Damaged at) = tt
has (suc n) (start.Damaged at) = tt
has file start.StoreFault = tt
has file start.NoMemory = tt
has file start.Spent = tt

why_stopped : (file : ℕ) (f : StartFault) (left : Option (List ℕ)) (lines : List (List ℕ)) (w : WorldState) → ((at : ℕ) → f ≡ start.Damaged at → ⊥) → (f ≡ start.Spent → IsOpeningSpent left lines w) → RestartStops (ended_by file f) left lines w
why_stopped file (start.Damaged at) left lines w never spent = absurd (never at refl)
why_stopped file start.StoreFault left lines w never spent = tt
why_stopped file start.NoMemory left lines w never spent = tt
why_stopped file start.Spent left lines w never spent = spent refl

-- what a crash leaves in a restart that ends a replay

-- it is the one that comes next
cut_at : (file : ℕ) (f : StartFault) (left : Option (List ℕ)) (lines : List (List ℕ)) (e : Event) → ((at : ℕ) → f ≡ start.Damaged at → ⊥) → ComesNext left lines e → CutAt (ended_by file f) left lines e
cut_at file (start.Damaged at) left lines e never next = absurd (never at refl)
cut_at file start.StoreFault left lines e never next = next
cut_at file start.NoMemory left lines e never next = next
cut_at file start.Spent left lines e never next = next

stop_left : (Cut : Event → Type 0) (e : Event) (file : ℕ) (w : WorldState) (done : Acknowledged) (image : Image) → is_restart e file → Cut e → SurvivesRestart w e done image → SurvivesStop Cut w done image
stop_left Cut e file w done image r cut left =
    ⊎_elim
    (λ keys. inl (subst Cut keys.0 cut, subst (λ (x : Event). SurvivesRestart w x done image) keys.0 left))
    (λ names. inr (subst Cut names.0 cut, subst (λ (x : Event). SurvivesRestart w x done image) names.0 left))
    (which_restart e file r)

-- the place of the input at a restart of either service

keys_next : (f : StartFault) (all : List ℕ) (lines : List (List ℕ)) → NextSpells all lines event.RestartKms → StopsAt (ended_by 0 f) all lines
keys_next (start.Damaged at) all lines next = next
keys_next start.StoreFault all lines next = inl next
keys_next start.NoMemory all lines (line, more, is, spells) = (line ∷ more, is)
keys_next start.Spent all lines next = inl next

names_next : (f : StartFault) (all : List ℕ) (lines : List (List ℕ)) → NextSpells all lines event.RestartName → StopsAt (ended_by 1 f) all lines
names_next (start.Damaged at) all lines next = next
names_next start.StoreFault all lines next = inr next
names_next start.NoMemory all lines (line, more, is, spells) = (line ∷ more, is)
names_next start.Spent all lines next = inr next

restart_next : (e : Event) (file : ℕ) (f : StartFault) (all : List ℕ) (lines : List (List ℕ)) → is_restart e file → NextSpells all lines e → StopsAt (ended_by file f) all lines
restart_next e file f all lines r next =
    ⊎_elim
    (λ keys. subst (λ (n : ℕ). StopsAt (ended_by n f) all lines) (sym keys.1) (keys_next f all lines (subst (NextSpells all lines) keys.0 next)))
    (λ names. subst (λ (n : ℕ). StopsAt (ended_by n f) all lines) (sym names.1) (names_next f all lines (subst (NextSpells all lines) names.0 next)))
    (which_restart e file r)

-- the line that comes next spells this event
spelled_next : (left : Option (List ℕ)) (lines : List (List ℕ)) (line : List ℕ) (e : Event) → IsNext left lines line → SpellsLine line e → ComesNext left lines e
spelled_next left lines line e next spells = λ all telling. let n = next.next all telling in (line, n.0, n.1, spells)

-- it is a restart of either service
cut_next : (left : Option (List ℕ)) (lines : List (List ℕ)) (e : Event) (file : ℕ) → is_restart e file → ComesNext left lines e → IsCutShort left lines
cut_next left lines e file r next = ⊎_elim (λ keys. inl (subst (ComesNext left lines) keys.0 next)) (λ names. inr (subst (ComesNext left lines) names.0 next)) (which_restart e file r)

stops_at_restart : (props : List PropLine) (old mid new : DiskState) (b : Begin) (s : ReplayStand) (line : List ℕ) (fault : WorldFault) (v : View) (so : SoFar props old mid b s) → StopsAtRestart mid new s.view line fault v
    → Appends s.view.written v.written [] → IsNext b.left (lines_in so.played) line → Ran props old new b.world b.words v.words b.left b.written v.written (ended_by fault.file fault.fault) s.count
stops_at_restart props old mid new b s line fault v so at wrote next = record {
  played = so.played;
  spelled = so.course.spelled;
  runs = lived.runs;
  rest = λ k. ap (λ (x : ℕ → ℕ). x k) at.fails.same_words ∙ lived.rest k;
  kept = λ tells now done holds. record {
    moments = leaves_on lived.run (weaker (λ image left. inl left) (lived.survives tells done holds))
        (weaker (λ image left. inr (stopped tells done image left)) (at.fails.survives (tells_now old mid lived.run tells) (also done (logged_in h)) (lived.stands tells done holds)));
    last = λ image is. inr (stopped tells done image (at.fails.survives_then (tells_now old mid lived.run tells) (also done (logged_in h)) (lived.stands tells done holds) image is));
    reads = unread fault.file fault.fault b.left lines new (also done (logged_in h)) (world_after (world_of b.world) h) (cut_next b.left lines at.restart fault.file at.fails.restart comes);
  };
  promise = lived.files_open;
  apart = lived.draws_apart;
  run = run_on old mid new lived.run at.fails.run;
  counted_faults = omega (arith, lived.faults_are, at.fails.run.faults);
  restart = λ tells. why_stopped fault.file fault.fault b.left lines (world_after (world_of b.world) h) (at.fails.never_damaged (tells_now old mid lived.run tells))
      (λ is.
      let last = at.fails.spent is (tells_now old mid lived.run tells) in
      subst (IsOpeningSpent b.left lines) lived.world_is (spent_is b.left lines at.restart fault.file (world_of s.view.world) last.0 at.fails.restart comes last.1));
  has_properties = has fault.file fault.fault;
  stops = λ all telling. restart_next at.restart fault.file fault.fault all lines at.fails.restart (comes all telling);
  text = transcript h;
  wrote = subst (Appends b.written v.written) (append-nil (transcript h)) (Appends-trans b.written s.view.written v.written _ _ so.wrote wrote);
  printed = all_printed (ended_by fault.file fault.fault) (transcript h) (transcript h) refl;
  counted = so.counted;
}
  where
    h : History
    h = events_of_lines so.played

    lines : List (List ℕ)
    lines = lines_in so.played

    lived : Lived props old mid b.world b.words s.view.world s.view.words h
    lived = so.course.lived

    comes : ComesNext b.left lines at.restart
    comes = spelled_next b.left lines line at.restart next at.spells

    -- which restart was cut short
    Cut : Event → Type 0
    Cut = CutAt (ended_by fault.file fault.fault) b.left lines

    -- what the restart leaves
    stopped : Tells old → (done : Acknowledged) (image : Image) → LeftByRestart (world_of s.view.world) at.restart (also done (logged_in h)) image
        → LeftByStop Cut done (LinkedWorld (world_of b.world)) (world_of b.world) b.words h image
    stopped tells done image left = (
      stop_left Cut at.restart fault.file (world_after (world_of b.world) h) (also done (logged_in h)) image at.fails.restart
          (cut_at fault.file fault.fault b.left lines at.restart (at.fails.never_damaged (tells_now old mid lived.run tells)) comes)
          (subst (λ (w : WorldState). SurvivesRestart w at.restart (also done (logged_in h)) image) lived.world_is left.0),
      λ hidden linked. left.1 (hidden_in hidden (world_of b.world) b.words h) (lived.linked tells hidden linked),
    )

-- how the loop goes on and stops

-- the end that is answered
the_end : (a b : ReplayEnd) → Some a ≡ Some b → a ≡ b
the_end a b is = cc

-- a line that was played, or not, ends the replay
line_stops : (props : List PropLine) (old mid new : DiskState) (b : Begin) (s : ReplayStand) (line : List ℕ) (last : Bool) (v : View) (count : ℕ) (stop : ReplayEnd) (so : SoFar props old mid b s) → LinePlayed props mid new s.view line last (Some stop) v s.count count
    → is_line line ≡ true → IsNext b.left (lines_in so.played) line → (last ≡ true → (all : List ℕ) → b.left ≡ Some all → StopsAt ended.Done all (lines_in so.played ++ line ∷ []))
    → (0 < length line → BeginsWithin (lines_in so.played)) → Ran props old new b.world b.words v.words b.left b.written v.written stop count
unfolding IsPlain
line_stops props old mid new b s line last v count stop so p is next whole within = go p.play last p.plays p.result_is p.counted whole
  where
    lines : List (List ℕ)
    lines = lines_in so.played

    before : List ℕ
    before = transcript (events_of_lines so.played)

    Goal : ℕ → ReplayEnd → Type 0
    Goal n e = Ran props old new b.world b.words v.words b.left b.written v.written e n

    played : StaysQuiet mid new s.view line v ⊎ ((plays : PlaysEvent props mid new s.view line v) × Appends s.view.written v.written (line_text (s.view.events + 1) plays.reply))
        → ((all : List ℕ) → b.left ≡ Some all → StopsAt ended.Done all (lines ++ line ∷ [])) → Goal (s.count + 1) ended.Done
    played (inl stays) whole = stops_quiet props old mid new b s ended.Done line v so stays is ((λ left lines w. tt), tt) whole
    played (inr (plays, wrote)) whole = stops_behind props old mid new b s ended.Done line v (line_text (s.view.events + 1) plays.reply) so plays is ((λ left lines w. tt), tt) wrote refl whole

    go : (play : LineOutcome) (last : Bool) → PlaysSo props mid new s.view line play v → Some stop ≡ end_of_play last play → count ≡ s.count + counts play
        → (last ≡ true → (all : List ℕ) → b.left ≡ Some all → StopsAt ended.Done all (lines ++ line ∷ [])) → Ran props old new b.world b.words v.words b.left b.written v.written stop count
    go Played false p is_end n whole = absurd cc
    go Played true p is_end n whole = subst (λ (e : ReplayEnd). Goal count e) (sym (the_end stop ended.Done is_end)) (subst (λ (k : ℕ). Goal k ended.Done) (sym n) (played p (whole refl)))
    go BadLine last (bad, u) is_end n whole =
        subst (λ (e : ReplayEnd). Goal count e) (sym (the_end stop ended.BadLine (is_end ∙ bad_end last))) (subst (λ (k : ℕ). Goal k ended.BadLine) (sym (n ∙ omega arith))
        (stops_before props old mid new b s ended.BadLine v so u ((λ left lines w. tt), tt) (λ all reply. let at = next.next all reply in inl (line, at.0, at.1, bad, within (bad_has_byte line bad)))))
      where
        bad_end : (l : Bool) → end_of_play l BadLine ≡ Some ended.BadLine
        bad_end true = refl
        bad_end false = refl
    go Unread last u is_end n whole =
        subst (λ (e : ReplayEnd). Goal count e) (sym (the_end stop ended.NoMemory (is_end ∙ no_end last))) (subst (λ (k : ℕ). Goal k ended.NoMemory) (sym (n ∙ omega arith))
        (stops_before props old mid new b s ended.NoMemory v so u ((λ left lines w. tt), tt) (λ all reply. let at = next.next all reply in (line ∷ at.0, at.1))))
      where
        no_end : (l : Bool) → end_of_play l Unread ≡ Some ended.NoMemory
        no_end true = refl
        no_end false = refl
    go Unanswered last (plays, wrote) is_end n whole =
        subst (λ (e : ReplayEnd). Goal count e) (sym (the_end stop ended.NoMemory (is_end ∙ no_end last))) (subst (λ (k : ℕ). Goal k ended.NoMemory) (sym n)
        (stops_behind props old mid new b s ended.NoMemory line v [] so plays is ((λ left lines w. tt), tt) wrote
        (line_text (s.view.events + 1) plays.reply, ap (λ (t : List ℕ). t ++ line_text (s.view.events + 1) plays.reply) (append-nil before)) (λ all reply. begins b.left lines line next all reply)))
      where
        no_end : (l : Bool) → end_of_play l Unanswered ≡ Some ended.NoMemory
        no_end true = refl
        no_end false = refl
    go Unwritten last (plays, wrote) is_end n whole =
        subst (λ (e : ReplayEnd). Goal count e) (sym (the_end stop ended.WriteFault (is_end ∙ no_end last))) (subst (λ (k : ℕ). Goal k ended.WriteFault) (sym n)
        (stops_behind props old mid new b s ended.WriteFault line v wrote.front so plays is ((λ left lines w. tt), tt) wrote.wrote
        (wrote.more, append_assoc before wrote.front wrote.more ∙ ap (λ (t : List ℕ). before ++ t) wrote.whole) (λ all reply. begins b.left lines line next all reply)))
      where
        no_end : (l : Bool) → end_of_play l Unwritten ≡ Some ended.WriteFault
        no_end true = refl
        no_end false = refl
    go (Unopened fault) last (at, wrote) is_end n whole =
        subst (λ (e : ReplayEnd). Goal count e) (sym (the_end stop (ended_by fault.file fault.fault) (is_end ∙ no_end last))) (subst (λ (k : ℕ). Goal k (ended_by fault.file fault.fault)) (sym (n ∙ omega arith))
        (stops_at_restart props old mid new b s line fault v so at wrote next))
      where
        no_end : (l : Bool) → end_of_play l (Unopened fault) ≡ Some (ended_by fault.file fault.fault)
        no_end true = refl
        no_end false = refl

ahead_of : (props : List PropLine) (old mid : DiskState) (b : Begin) (s : ReplayStand) (so : SoFar props old mid b s) → IsAhead b.left s.ahead (lines_in so.played)
ahead_of props old mid b s so = record { whole = so.course.whole; consumed = so.consumed }

-- the next line ends the replay
pub next_stops : (props : List PropLine) (old mid new : DiskState) (b : Begin) (s s' : ReplayStand) (stop : ReplayEnd) → SoFar props old mid b s → Next props mid new s (Some stop) s' → Ran props old new b.world b.words s'.view.words b.left b.written s'.view.written stop s'.count
unfolding IsPlain
next_stops props old mid new b s s' stop so n = go n.how n.read n.next
  where
    lines : List (List ℕ)
    lines = lines_in so.played

    ahead : IsAhead b.left s.ahead lines
    ahead = ahead_of props old mid b s so

    -- a line of which bytes were used begins within the longest input
    begins_within : (used : List ℕ) → length n.line ≤ length used → s'.used ≡ s.used + length used → s'.used ≤ 2 ^ 40 → 0 < length n.line → BeginsWithin lines
    begins_within used longer used_is bounded some = omega (arith, so.used_is, longer, used_is, bounded, some)

    ends : (e : ReplayEnd) → IsPlain e → StopsReading mid new s.view s'.view s.count s'.count e (Some stop)
        → ((all : List ℕ) → b.left ≡ Some all → StopsAt e all lines) → Ran props old new b.world b.words s'.view.words b.left b.written s'.view.written stop s'.count
    ends e plain r here =
        subst (λ (x : ReplayEnd). Ran props old new b.world b.words s'.view.words b.left b.written s'.view.written x s'.count) (sym (the_end stop e r.result_is))
        (subst (λ (k : ℕ). Ran props old new b.world b.words s'.view.words b.left b.written s'.view.written e k) (sym r.counted) (before e plain r here))
      where
        before : (e : ReplayEnd) → IsPlain e → StopsReading mid new s.view s'.view s.count s'.count e (Some stop)
            → ((all : List ℕ) → b.left ≡ Some all → StopsAt e all lines) → Ran props old new b.world b.words s'.view.words b.left b.written s'.view.written e s.count
        before e plain r here = stops_before props old mid new b s e s'.view so r.untouched plain here

    go : (how : LineEnd) → Read s how n.line s' → NextSo props mid new s how n.line (Some stop) s' → Ran props old new b.world b.words s'.view.words b.left b.written s'.view.written stop s'.count
    go line_end.Line read played =
        line_stops props old mid new b s n.line false s'.view s'.count stop so played read.is_line
        (record { next = λ all telling. next_is b.left s.ahead s'.ahead lines n.line ahead read.is_line (read.consumed (λ e. cc)) all telling }) (λ e. absurd cc) (begins_within (line_used line_end.Line n.line) (omega (arith, length-append n.line (10 ∷ []))) (read.used (λ e. cc)) read.bounded)
    go line_end.End read played =
        let used = read.used (λ e. cc) in
        let whole = λ (all : List ℕ) (telling : b.left ≡ Some all). last_is b.left s.ahead s'.ahead lines n.line s.used s'.used ahead read.is_line (read.consumed (λ e. cc)) so.used_is used read.bounded (read.end refl) all telling in
        line_stops props old mid new b s n.line true s'.view s'.count stop so played read.is_line (record { next = λ all telling. ([], (whole all telling).0) }) (λ e. whole) (begins_within n.line (omega arith) used read.bounded)
    go line_end.TooLong read r = ends ended.BadLine ((λ left lines w. tt), tt) r (λ all telling. too_long b.left s.ahead s'.ahead lines n.line ahead read.is_line (read.consumed (λ e. cc)) (read.long refl) (begins_within n.line (omega arith) (read.used (λ e. cc)) read.bounded) all telling)
    go line_end.Past read r =
        ends ended.BadLine ((λ left lines w. tt), tt) r (λ all telling. past b.left s.ahead s'.ahead lines n.line s.used s'.used ahead read.is_line (read.consumed (λ e. cc)) so.used_is (read.used (λ e. cc)) (read.past refl).0 (read.past refl).1 all telling)
    go line_end.Fault read r = ends ended.ReadFault ((λ left lines w. tt), tt) r (λ all telling. starts b.left s.ahead lines ahead all telling)
    go line_end.NoMemory read r = ends ended.NoMemory ((λ left lines w. tt), tt) r (λ all telling. starts b.left s.ahead lines ahead all telling)

-- the next line was played, and the replay goes on
pub record GoesFurther (props : List PropLine) (old new : DiskState) (b : Begin) (s s' : ReplayStand) : Type 0 where
  pub so_far : SoFar props old new b s'
  pub further : s.used < s'.used
  pub counted : s'.count ≡ s.count + 1

pub next_goes_on : (props : List PropLine) (old mid new : DiskState) (b : Begin) (s s' : ReplayStand) → SoFar props old mid b s → Next props mid new s None s' → GoesFurther props old new b s s'
next_goes_on props old mid new b s s' so n = go n.how n.read n.next
  where
    quiet_or_event : StaysQuiet mid new s.view n.line s'.view ⊎ ((plays : PlaysEvent props mid new s.view n.line s'.view) × Appends s.view.written s'.view.written (line_text (s.view.events + 1) plays.reply))
        → Read s line_end.Line n.line s' → SoFar props old new b (record { view = s'.view; ahead = s'.ahead; used = s'.used; count = s.count + 1 })
    quiet_or_event (inl stays) read = so_far_quiet props old mid new b s n.line s'.view s'.ahead s'.used so stays read.is_line (read.consumed (λ e. cc)) (read.used (λ e. cc))
    quiet_or_event (inr (plays, wrote)) read = so_far_event props old mid new b s n.line s'.view s'.ahead s'.used so plays wrote read.is_line (read.consumed (λ e. cc)) (read.used (λ e. cc))

    played : (play : LineOutcome) → PlaysSo props mid new s.view n.line play s'.view → None ≡ end_of_play false play → s'.count ≡ s.count + counts play → Read s line_end.Line n.line s' → GoesFurther props old new b s s'
    played Played p is_end count read =
        let used = read.used (λ e. cc) in
        record {
          so_far = subst (λ (k : ℕ). SoFar props old new b (record { view = s'.view; ahead = s'.ahead; used = s'.used; count = k })) (sym count) (quiet_or_event p read);
          further = omega (arith, used, length-append n.line (10 ∷ []));
          counted = count;
        }
    played BadLine p is_end count read = absurd cc
    played Unread p is_end count read = absurd cc
    played Unanswered p is_end count read = absurd cc
    played Unwritten p is_end count read = absurd cc
    played (Unopened fault) p is_end count read = absurd cc

    not_last : (play : LineOutcome) → None ≡ end_of_play true play → ⊥
    not_last Played e = absurd cc
    not_last BadLine e = absurd cc
    not_last Unread e = absurd cc
    not_last Unanswered e = absurd cc
    not_last Unwritten e = absurd cc
    not_last (Unopened fault) e = absurd cc

    go : (how : LineEnd) → Read s how n.line s' → NextSo props mid new s how n.line None s' → GoesFurther props old new b s s'
    go line_end.Line read p = played p.play p.plays p.result_is p.counted read
    go line_end.End read p = absurd (not_last p.play p.result_is)
    go line_end.TooLong read r = let no = r.result_is in absurd cc
    go line_end.Past read r = let no = r.result_is in absurd cc
    go line_end.Fault read r = let no = r.result_is in absurd cc
    go line_end.NoMemory read r = let no = r.result_is in absurd cc

-- under properties that the lists stand for

-- the same for all of them
abbrev pub SoFarUnder : DiskState → DiskState → Begin → ReplayStand → Type 0
SoFarUnder old new b s = (props : List PropLine) → HasLists b.world props → SoFar props old new b s

pub stands_under : (old mid : DiskState) (b : Begin) (s : ReplayStand) → SoFarUnder old mid b s → (props : List PropLine) × HasLists b.world props
    → (Tells old → (done : Acknowledged) × HoldsLogs old b.world done) → Tells mid → (done : Acknowledged) × HoldsLogs mid s.view.world done
stands_under old mid b s so some stands tells =
    let here = so some.0 some.1 in
    let lived = here.course.lived in
    let telling : Tells old = subst (λ (t : Bool). IsTrue t) lived.run.tells tells in
    let before = stands telling in
    (also before.0 (logged_in (events_of_lines here.played)), lived.stands telling before.0 before.1)

pub lists_under : (old mid : DiskState) (b : Begin) (s : ReplayStand) → SoFarUnder old mid b s → (props : List PropLine) × HasLists b.world props → (props : List PropLine) × HasLists s.view.world props
lists_under old mid b s so some = (some.0, has_lists b.world s.view.world some.0 (so some.0 some.1).course.lived.lists some.1)

pub goes_on_under : (old mid new : DiskState) (b : Begin) (s s' : ReplayStand) → SoFarUnder old mid b s → ((props : List PropLine) → HasLists s.view.world props → Next props mid new s None s')
    → (props : List PropLine) → HasLists b.world props → GoesFurther props old new b s s'
goes_on_under old mid new b s s' so next props has =
    let here = so props has in
    next_goes_on props old mid new b s s' here (next props (has_lists b.world s.view.world props here.course.lived.lists has))

pub stops_under : (old mid new : DiskState) (b : Begin) (s s' : ReplayStand) (stop : ReplayEnd) → SoFarUnder old mid b s → ((props : List PropLine) → HasLists s.view.world props → Next props mid new s (Some stop) s')
    → (props : List PropLine) → HasLists b.world props → Ran props old new b.world b.words s'.view.words b.left b.written s'.view.written stop s'.count
stops_under old mid new b s s' stop so next props has =
    let here = so props has in
    next_stops props old mid new b s s' stop here (next props (has_lists b.world s.view.world props here.course.lived.lists has))

-- the causes of faults

no_end : (e : ReplayEnd) → None ≡ Some e → ⊥
no_end e is = absurd cc

pub goes_on_untroubled : (input input' out out' disk disk' : ℕ) → input ≤ input' → out ≤ out' → disk ≤ disk' → Caused input input' out out' disk disk' None
goes_on_untroubled input input' out out' disk disk' read write store = record {
  read_later = read;
  write_later = write;
  disk_later = store;
  read = λ e. absurd (no_end ended.ReadFault e);
  write = λ e. absurd (no_end ended.WriteFault e);
  store = λ e. absurd (no_end ended.StoreFault e);
}

-- the count of the disk's faults never falls
disk_later : (props : List PropLine) (old new : DiskState) (v v' : View) (line : List ℕ) (play : LineOutcome) → PlaysSo props old new v line play v' → old.faults ≤ new.faults
disk_later props old new v v' line Played (inl stays) = stays.untouched.run.faults
disk_later props old new v v' line Played (inr (plays, wrote)) = plays.steps.run.faults
disk_later props old new v v' line BadLine (bad, u) = u.run.faults
disk_later props old new v v' line Unread u = u.run.faults
disk_later props old new v v' line Unanswered (plays, wrote) = plays.steps.run.faults
disk_later props old new v v' line Unwritten (plays, wrote) = plays.steps.run.faults
disk_later props old new v v' line (Unopened fault) (at, wrote) = at.fails.run.faults

never_opened : (file : ℕ) (fault : StartFault) → Some (ended_by file fault) ≡ Some ended.ReadFault → ⊥
never_opened zero (start.Damaged at) e = absurd cc
never_opened (suc n) (start.Damaged at) e = absurd cc
never_opened file start.StoreFault e = absurd cc
never_opened file start.NoMemory e = absurd cc
never_opened file start.Spent e = absurd cc

is_store_fault : (file : ℕ) (fault : StartFault) → Some (ended_by file fault) ≡ Some ended.StoreFault → fault ≡ start.StoreFault
is_store_fault zero (start.Damaged at) e = absurd cc
is_store_fault (suc n) (start.Damaged at) e = absurd cc
is_store_fault file start.StoreFault e = refl
is_store_fault file start.NoMemory e = absurd cc
is_store_fault file start.Spent e = absurd cc

-- no line that was read is a fault of the input
never_read : (last : Bool) (play : LineOutcome) → end_of_play last play ≡ Some ended.ReadFault → ⊥
never_read true Played e = absurd cc
never_read false Played e = absurd cc
never_read true BadLine e = absurd cc
never_read false BadLine e = absurd cc
never_read true Unread e = absurd cc
never_read false Unread e = absurd cc
never_read true Unanswered e = absurd cc
never_read false Unanswered e = absurd cc
never_read true Unwritten e = absurd cc
never_read false Unwritten e = absurd cc
never_read true (Unopened fault) e = never_opened fault.file fault.fault e
never_read false (Unopened fault) e = never_opened fault.file fault.fault e

-- a store fault comes from a restart that failed
store_rose : (props : List PropLine) (old new : DiskState) (v v' : View) (line : List ℕ) (last : Bool) (play : LineOutcome) → PlaysSo props old new v line play v' → end_of_play last play ≡ Some ended.StoreFault
    → Rose old.faults new.faults
store_rose props old new v v' line true Played p e = absurd cc
store_rose props old new v v' line false Played p e = absurd cc
store_rose props old new v v' line true BadLine p e = absurd cc
store_rose props old new v v' line false BadLine p e = absurd cc
store_rose props old new v v' line true Unread p e = absurd cc
store_rose props old new v v' line false Unread p e = absurd cc
store_rose props old new v v' line true Unanswered p e = absurd cc
store_rose props old new v v' line false Unanswered p e = absurd cc
store_rose props old new v v' line true Unwritten p e = absurd cc
store_rose props old new v v' line false Unwritten p e = absurd cc
store_rose props old new v v' line true (Unopened fault) (at, wrote) e = at.fails.cause (is_store_fault fault.file fault.fault e)
store_rose props old new v v' line false (Unopened fault) (at, wrote) e = at.fails.cause (is_store_fault fault.file fault.fault e)

pub line_caused : (props : List PropLine) (old new : DiskState) (v v' : View) (line : List ℕ) (last : Bool) (result : Option ReplayEnd) (count count' input input' out out' : ℕ)
    → LinePlayed props old new v line last result v' count count' → input ≤ input' → out ≤ out' → (result ≡ Some ended.WriteFault → Rose out out') → Caused input input' out out' old.faults new.faults result
line_caused props old new v v' line last result count count' input input' out out' p read write wrote = record {
  read_later = read;
  write_later = write;
  disk_later = disk_later props old new v v' line p.play p.plays;
  read = λ e. absurd (never_read last p.play (sym p.result_is ∙ e));
  write = wrote;
  store = λ e. store_rose props old new v v' line last p.play p.plays (sym p.result_is ∙ e);
}

-- nothing was read yet
pub first_ahead : (bytes : List ℕ) (left : Option (List ℕ)) → bytes ≡ [] → Consumes left (prepend_known bytes left) []
first_ahead bytes left none = subst (λ (l : List ℕ). Consumes left (prepend_known l left) []) (sym none) (at_start left)
  where
    at_start : (o : Option (List ℕ)) → Consumes o (prepend_known [] o) []
    at_start None = tt
    at_start (Some xs) = refl
