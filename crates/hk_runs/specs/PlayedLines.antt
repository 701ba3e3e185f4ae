-- The lines of a replay, and the events that they spell.
use Rattle.std.specs.Prelude.{◌≡◌, ℕ, ◌+◌, List, [], ◌∷◌, ◌++◌, length, Option, None, Some}
use Rattle.replay_text.specs.Events.{IsQuietLine, SpellsLine}
use Rattle.replay_text.specs.Transcript.{line_text}
use Rattle.hk_runs.specs.Run.{Happened, History}

-- a line that was played, with its event; a quiet line has none
pub record PlayedLine : Type 0 where
  pub line : List ℕ
  pub event : Option Happened

-- an event, if there is one, after earlier ones
abbrev pub with_event : Option Happened → History → History
with_event None earlier = earlier
with_event (Some h) earlier = h ∷ earlier

-- the events of lines that were played, the newest one first
abbrev pub events_of_lines : List PlayedLine → History
events_of_lines [] = []
events_of_lines (x ∷ earlier) = with_event x.event (events_of_lines earlier)

-- the lines themselves, in the order in which they were played
abbrev pub lines_in : List PlayedLine → List (List ℕ)
lines_in [] = []
lines_in (x ∷ earlier) = lines_in earlier ++ x.line ∷ []

-- A line spells its event, which comes after `events` others, and whose moment is its number; or it has none, and is quiet.
abbrev pub IsSpelledBy : ℕ → Option Happened → List ℕ → Type 0
IsSpelledBy events None line = IsQuietLine line
IsSpelledBy events (Some h) line = SpellsLine line h.event × (h.now ≡ events + 1)

-- each line that was played spells what happened
abbrev pub AreSpelled : List PlayedLine → Type 0
AreSpelled [] = Unit {0}
AreSpelled (x ∷ earlier) = IsSpelledBy (length (events_of_lines earlier)) x.event x.line × AreSpelled earlier

-- the transcript of a run: its answers, each with the number of its event
abbrev pub transcript : History → List ℕ
transcript [] = []
transcript (h ∷ earlier) = transcript earlier ++ line_text (length earlier + 1) h.reply
