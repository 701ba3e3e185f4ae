-- What was read, played and written so far.
use Rattle.std.proofs.Common.{◌≡◌, ℕ, ◌+◌, List, [], ◌∷◌, ◌++◌, length, refl, ap, sym, subst, IsTrue, true, Option, None, Some, arith, length-append}
use Rattle.std.specs.List.{list_all}
use Rattle.std.specs.Io.KnownBytes.{Appends, Consumes}
use Rattle.std.proofs.KnownBytes.{Appends-trans, Consumes-trans}
use Rattle.hk_base.specs.Disk.{DiskState}
use Rattle.prop_text.specs.declared.lines.PropLine.{PropLine}
use Rattle.replay_text.specs.Transcript.{line_text}
use Rattle.world_run.specs.World.{RunningWorld}
use Rattle.command_io.specs.Lines.{is_line, text_of}
use Rattle.hk_runs.specs.PlayedLines.{AreSpelled, PlayedLine, events_of_lines, lines_in, transcript}
use Rattle.hk_runs.specs.Steps.{PlaysEvent, ReplayStand, StaysQuiet, Untouched, View}
use Rattle.hk_runs.proofs.LivedLemmas.{Lived, happened_in, lived_more, lived_nothing, lived_untouched}
use Rattle.command_io.proofs.SplitLemmas.{text_more, whole_more}

-- the state in which a replay began: the world, the words to come, what was left to read, and what was written
pub record Begin : Type 0 where
  pub world : RunningWorld
  pub words : ℕ → ℕ
  pub left : Option (List ℕ)
  pub written : Option (List ℕ)

-- these lines were played, and their events have led here
pub record Course (props : List PropLine) (old new : DiskState) (b : Begin) (v : View) (played : List PlayedLine) : Type 0 where
  pub spelled : AreSpelled played
  pub lived : Lived props old new b.world b.words v.world v.words (events_of_lines played)
  pub numbered : v.events ≡ length (events_of_lines played)
  pub whole : IsTrue (list_all is_line (lines_in played))

-- between two lines: what was used of the input, and what was written
pub record SoFar (props : List PropLine) (old new : DiskState) (b : Begin) (s : ReplayStand) : Type 0 where
  pub played : List PlayedLine
  pub course : Course props old new b s.view played
  pub counted : s.count ≡ length (lines_in played)
  pub consumed : Consumes b.left s.ahead (text_of (lines_in played))
  pub used_is : s.used ≡ length (text_of (lines_in played))
  pub wrote : Appends b.written s.view.written (transcript (events_of_lines played))

pub nothing_yet : (props : List PropLine) (d : DiskState) (b : Begin) (s : ReplayStand) → s.view.world ≡ b.world → ((k : ℕ) → s.view.words k ≡ b.words k) → s.view.events ≡ 0 → s.count ≡ 0 → s.used ≡ 0
    → Consumes b.left s.ahead [] → Appends b.written s.view.written [] → SoFar props d d b s
nothing_yet props d b s world words events count used consumed wrote = record {
  played = [];
  course = record {
    spelled = tt;
    lived = subst (λ (r : RunningWorld). Lived props d d b.world b.words r s.view.words []) (sym world) (lived_nothing props d b.world b.words s.view.words words);
    numbered = events;
    whole = refl;
  };
  counted = count;
  consumed = consumed;
  used_is = used;
  wrote = wrote;
}

-- nothing was done
pub course_untouched : (props : List PropLine) (old mid new : DiskState) (b : Begin) (s v : View) (played : List PlayedLine) → Course props old mid b s played → Untouched mid new s v → Course props old new b v played
course_untouched props old mid new b s v played so u =
    subst (λ (x : View). Course props old new b x played) (sym u.same)
    (record { spelled = so.spelled; lived = lived_untouched props old mid new b.world b.words s v (events_of_lines played) so.lived u; numbered = so.numbered; whole = so.whole })

-- one line more

-- a quiet line
abbrev pub quiet_line : List ℕ → PlayedLine
quiet_line line = record { line = line; event = None }

-- a line whose event happened
abbrev pub event_line : {props : List PropLine} {old new : DiskState} {v v' : View} {line : List ℕ} → PlaysEvent props old new v line v' → PlayedLine
event_line {props} {old} {new} {v} {v'} {line} plays = record { line = line; event = Some (happened_in plays.steps) }

pub course_quiet : (props : List PropLine) (old mid new : DiskState) (b : Begin) (s v : View) (line : List ℕ) (played : List PlayedLine) → Course props old mid b s played → StaysQuiet mid new s line v → is_line line ≡ true
    → Course props old new b v (quiet_line line ∷ played)
course_quiet props old mid new b s v line played so stays is =
    let here = course_untouched props old mid new b s v played so stays.untouched in
    record {
      spelled = (stays.quiet, here.spelled);
      lived = here.lived;
      numbered = here.numbered;
      whole = whole_more (lines_in played) line here.whole is;
    }

pub course_event : (props : List PropLine) (old mid new : DiskState) (b : Begin) (s v : View) (line : List ℕ) (played : List PlayedLine) → Course props old mid b s played → (plays : PlaysEvent props mid new s line v) → is_line line ≡ true
    → Course props old new b v (event_line plays ∷ played)
course_event props old mid new b s v line played so plays is = record {
  spelled = ((plays.spells, ap (λ (n : ℕ). n + 1) so.numbered), so.spelled);
  lived = lived_more props old mid new b.world s.world v.world b.words s.words v.words (events_of_lines played) (s.events + 1) plays.event plays.reply so.lived plays.steps;
  numbered = omega (arith, plays.counted, so.numbered);
  whole = whole_more (lines_in played) line so.whole is;
}

-- one line more is counted
pub count_more : (count : ℕ) (lines : List (List ℕ)) (line : List ℕ) → count ≡ length lines → count + 1 ≡ length (lines ++ line ∷ [])
count_more count lines line counted = omega (arith, counted, length-append lines (line ∷ []))

-- the next line was ended, and this was written of it
so_far_line : (props : List PropLine) (old mid new : DiskState) (b : Begin) (s : ReplayStand) (x : PlayedLine) (v : View) (ahead : Option (List ℕ)) (used : ℕ) (so : SoFar props old mid b s) → Course props old new b v (x ∷ so.played)
    → Appends b.written v.written (transcript (events_of_lines (x ∷ so.played))) → Consumes s.ahead ahead (x.line ++ 10 ∷ []) → used ≡ s.used + length (x.line ++ 10 ∷ [])
    → SoFar props old new b (record { view = v; ahead = ahead; used = used; count = s.count + 1 })
so_far_line props old mid new b s x v ahead used so course wrote consumed used_is = record {
  played = x ∷ so.played;
  course = course;
  counted = count_more s.count lines x.line so.counted;
  consumed = subst (Consumes b.left ahead) (sym (text_more lines x.line)) (Consumes-trans b.left s.ahead ahead _ _ so.consumed consumed);
  used_is = omega (arith, used_is, so.used_is, ap length (text_more lines x.line), length-append (text_of lines) (x.line ++ 10 ∷ []));
  wrote = wrote;
}
  where
    lines : List (List ℕ)
    lines = lines_in so.played

pub so_far_quiet : (props : List PropLine) (old mid new : DiskState) (b : Begin) (s : ReplayStand) (line : List ℕ) (v : View) (ahead : Option (List ℕ)) (used : ℕ) → SoFar props old mid b s → StaysQuiet mid new s.view line v
    → is_line line ≡ true → Consumes s.ahead ahead (line ++ 10 ∷ []) → used ≡ s.used + length (line ++ 10 ∷ [])
    → SoFar props old new b (record { view = v; ahead = ahead; used = used; count = s.count + 1 })
so_far_quiet props old mid new b s line v ahead used so stays is consumed used_is =
    so_far_line props old mid new b s (quiet_line line) v ahead used so (course_quiet props old mid new b s.view v line so.played so.course stays is)
    (subst (λ (x : View). Appends b.written x.written (transcript (events_of_lines so.played))) (sym stays.untouched.same) so.wrote) consumed used_is

pub so_far_event : (props : List PropLine) (old mid new : DiskState) (b : Begin) (s : ReplayStand) (line : List ℕ) (v : View) (ahead : Option (List ℕ)) (used : ℕ) → SoFar props old mid b s → (plays : PlaysEvent props mid new s.view line v)
    → Appends s.view.written v.written (line_text (s.view.events + 1) plays.reply) → is_line line ≡ true → Consumes s.ahead ahead (line ++ 10 ∷ []) → used ≡ s.used + length (line ++ 10 ∷ [])
    → SoFar props old new b (record { view = v; ahead = ahead; used = used; count = s.count + 1 })
so_far_event props old mid new b s line v ahead used so plays wrote is consumed used_is =
    so_far_line props old mid new b s (event_line plays) v ahead used so (course_event props old mid new b s.view v line so.played so.course plays is)
    (subst (λ (n : ℕ). Appends b.written v.written (transcript (events_of_lines so.played) ++ line_text (n + 1) plays.reply)) so.course.numbered (Appends-trans b.written s.view.written v.written _ _ so.wrote wrote)) consumed used_is
