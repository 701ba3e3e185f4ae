-- An event of a line.
use Rattle.std.proofs.Common.{◌≡◌, inr, ℕ, ◌+◌, List, refl, sym, subst, Option}
use Rattle.hk_base.specs.Disk.{DiskState}
use Rattle.prop_text.specs.declared.lines.PropLine.{PropLine}
use Rattle.replay_text.specs.Events.{SpellsLine}
use Rattle.hk_events.specs.declared.event.Event.{Event}
use Rattle.hk_events.specs.declared.event.Line.{Line}
use Rattle.world_run.specs.World.{RunningWorld}
use Rattle.world_run.specs.Keeps.{Steps}
use Rattle.hk_runs.specs.declared.session.LineOutcome.{LineOutcome}
use Rattle.hk_runs.specs.declared.session.LineOutcome.TheVariants.{Played, BadLine, Unread, Unanswered, Unwritten, Unopened}
use Rattle.hk_runs.specs.Steps.{PlaysEvent, PlaysSo, TellsSo, Untouched, View}
use Rattle.hk_runs.proofs.LivedLemmas.{no_run, nothing_left}

event_played : (props : List PropLine) (old new : DiskState) (r r' : RunningWorld) (words words' : ℕ → ℕ) (events : ℕ) (written now : Option (List ℕ)) (event : Event) (answer : Line) (line : List ℕ)
    → Steps props old new r words (events + 1) event answer r' words' → SpellsLine line event
    → PlaysEvent props old new (record { world = r; words = words; events = events; written = written }) line (record { world = r'; words = words'; events = events + 1; written = now })
event_played props old new r r' words words' events written now event answer line s spells = record { event = event; reply = answer; spells = spells; steps = s; counted = refl }

line_played : (props : List PropLine) (old new : DiskState) (r r' : RunningWorld) (words words' : ℕ → ℕ) (events : ℕ) (written now : Option (List ℕ)) (event : Event) (answer : Line) (play : LineOutcome)
    → Steps props old new r words (events + 1) event answer r' words' → TellsSo (events + 1) answer written now play → (line : List ℕ) → SpellsLine line event
    → PlaysSo props old new (record { world = r; words = words; events = events; written = written }) line play (record { world = r'; words = words'; events = events + 1; written = now })
unfolding event_played
line_played props old new r r' words words' events written now event answer Played s wrote line spells = inr (event_played props old new r r' words words' events written now event answer line s spells, wrote)
line_played props old new r r' words words' events written now event answer BadLine s wrote line spells = absurd wrote
line_played props old new r r' words words' events written now event answer Unread s wrote line spells = absurd wrote
line_played props old new r r' words words' events written now event answer Unanswered s wrote line spells = (event_played props old new r r' words words' events written now event answer line s spells, wrote)
line_played props old new r r' words words' events written now event answer Unwritten s wrote line spells = (event_played props old new r r' words words' events written now event answer line s spells, wrote)
line_played props old new r r' words words' events written now event answer (Unopened fault) s wrote line spells = absurd wrote

pub event_plays : (props : List PropLine) (old new : DiskState) (r r' r'' : RunningWorld) (words words' : ℕ → ℕ) (events count : ℕ) (written now : Option (List ℕ)) (event : Event) (answer : Line) (play : LineOutcome)
    → Steps props old new r words (events + 1) event answer r' words' → TellsSo (events + 1) answer written now play → r'' ≡ r' → count ≡ events + 1 → (line : List ℕ) → SpellsLine line event
    → PlaysSo props old new (record { world = r; words = words; events = events; written = written }) line play (record { world = r''; words = words'; events = count; written = now })
event_plays props old new r r' r'' words words' events count written now event answer play s wrote same counted line spells =
    subst (λ (w : RunningWorld). PlaysSo props old new (record { world = r; words = words; events = events; written = written }) line play (record { world = w; words = words'; events = count; written = now })) (sym same)
    (subst (λ (n : ℕ). PlaysSo props old new (record { world = r; words = words; events = events; written = written }) line play (record { world = r'; words = words'; events = n; written = now })) (sym counted)
    (line_played props old new r r' words words' events written now event answer play s wrote line spells))

-- nothing was done
pub untouched : (d : DiskState) (v : View) → Untouched d d v v
untouched d v = record {
  same = refl;
  stands = λ done holds. holds;
  survives = nothing_left d (λ image. ⊥);
  rests = λ now. now;
  run = no_run d;
  faults_are = refl;
}
