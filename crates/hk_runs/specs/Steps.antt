-- One line of a replay.
use Rattle.std.specs.Prelude.{◌≡◌, ◌⊎◌, ◌≤◌, ◌≢◌, ℕ, ◌+◌, ◌^◌, Bool, true, false, List, [], length, Option, None, Some, IsTrue}
use Rattle.std.specs.Io.KnownBytes.{Appends, Consumes, IsAtEnd}
use Rattle.hk_base.specs.Disk.{DiskState, Image, IsImage, Tells}
use Rattle.hk_base.specs.Faults.{Rose}
use Rattle.hk_base.specs.Reading.{IsMore, ahead}
use Rattle.hk_base.specs.Writing.{WroteFront}
use Rattle.kms_acls.specs.Agreement.{AreListsOf}
use Rattle.prop_text.specs.declared.lines.PropLine.{PropLine}
use Rattle.replay_text.specs.Events.{IsBad, IsQuietLine, SpellsLine}
use Rattle.replay_text.specs.Transcript.{line_text}
use Rattle.hk_events.specs.declared.event.Event.{Event}
use Rattle.hk_events.specs.declared.event.Line.{Line}
use Rattle.world_run.specs.declared.fault.WorldFault.{WorldFault}
use Rattle.world_run.specs.Acknowledged.{Acknowledged, HoldsLogs, LeavesBoth, RunBoth, also}
use Rattle.world_run.specs.World.{RunningWorld, WorldState, world_of}
use Rattle.world_run.specs.Keeps.{FailsToRestart, RestsNow, Steps}
use Rattle.world_run.specs.Ledger.{Hidden}
use Rattle.world_run.specs.Linked.{AreDrawsApart, LinkedWorld}
use Rattle.command_io.specs.declared.lines.LineEnd.{LineEnd}
use Rattle.command_io.specs.declared.lines.LineEnd.TheVariants as line_end
use Rattle.command_io.specs.declared.ends.ReplayEnd.{ReplayEnd}
use Rattle.command_io.specs.declared.ends.ReplayEnd.TheVariants as ended
use Rattle.hk_runs.specs.declared.replay.ReplayRun.{ReplayRun}
use Rattle.hk_runs.specs.declared.session.Session.{Session}
use Rattle.hk_runs.specs.declared.session.LineOutcome.{LineOutcome}
use Rattle.hk_runs.specs.declared.session.LineOutcome.TheVariants.{Played, BadLine, Unread, Unanswered, Unwritten, Unopened}
use Rattle.command_io.specs.Lines.{is_line, line_used}
use Rattle.hk_runs.specs.Logs.{SurvivesLast, SurvivesUntil}
use Rattle.hk_runs.specs.PlayedLines.{AreSpelled, PlayedLine, events_of_lines, lines_in, transcript}
use Rattle.command_io.specs.Ends.{Closes, ended_by}
use Rattle.hk_runs.specs.Replay.{CutAt, HasProperties, IsPrinted, ReadsLogsAt, RestartStops, StopsAt}
use Rattle.hk_runs.specs.Run.{FilesOpenThroughout, IsHidden, Runs, StayApart, behind, drawn_in, faults_after, logged_in, world_after}

-- the access control lists of the world stand for these lines
abbrev pub HasLists : RunningWorld → List PropLine → Type 0
HasLists r lines = AreListsOf r.keys.acls lines

-- the access control lists stay as they are
abbrev pub SameLists : RunningWorld → RunningWorld → Type 0
SameLists r r' = r'.keys.acls ≡ r.keys.acls

-- the state of a replay between two lines
pub record View : Type 0 where
  pub world : RunningWorld
  pub words : ℕ → ℕ
  pub events : ℕ
  pub written : Option (List ℕ)

abbrev pub view_of : Session → (ℕ → ℕ) → Option (List ℕ) → View
view_of session words written = record { world = session.world; words = words; events = session.events; written = written }

-- under properties of these lines the event that a line spells happened, at the moment of its number, and was answered so
pub record PlaysEvent (lines : List PropLine) (old new : DiskState) (v : View) (line : List ℕ) (v' : View) : Type 0 where
  pub event : Event
  pub reply : Line
  pub spells : SpellsLine line event
  pub steps : Steps lines old new v.world v.words (v.events + 1) event reply v'.world v'.words
  pub counted : v'.events ≡ v.events + 1

-- a restart could not open its log
pub record StopsAtRestart (old new : DiskState) (v : View) (line : List ℕ) (fault : WorldFault) (v' : View) : Type 0 where
  pub restart : Event
  pub spells : SpellsLine line restart
  pub fails : FailsToRestart old new v.world v.words restart fault.file fault.fault v'.world v'.words

-- nothing was done
pub record Untouched (old new : DiskState) (v v' : View) : Type 0 where
  pub same : v' ≡ v
  pub stands : (done : Acknowledged) → HoldsLogs old v.world done → HoldsLogs new v.world done
  -- a crash leaves nothing that it might not have left before
  pub survives : LeavesBoth old new (λ image. ⊥)
  pub rests : RestsNow old v.world → RestsNow new v.world
  pub run : RunBoth old new
  pub faults_are : new.faults ≡ old.faults

-- a line that has no event
pub record StaysQuiet (old new : DiskState) (v : View) (line : List ℕ) (v' : View) : Type 0 where
  pub quiet : IsQuietLine line
  pub untouched : Untouched old new v v'

-- how a line came out
abbrev pub PlaysSo : List PropLine → DiskState → DiskState → View → List ℕ → LineOutcome → View → Type 0
PlaysSo lines old new v line Played v' =
    StaysQuiet old new v line v' ⊎ ((plays : PlaysEvent lines old new v line v') × Appends v.written v'.written (line_text (v.events + 1) plays.reply))
PlaysSo lines old new v line BadLine v' = IsBad line × Untouched old new v v'
PlaysSo lines old new v line Unread v' = Untouched old new v v'
PlaysSo lines old new v line Unanswered v' = PlaysEvent lines old new v line v' × Appends v.written v'.written []
PlaysSo lines old new v line Unwritten v' = (plays : PlaysEvent lines old new v line v') × WroteFront v.written v'.written (line_text (v.events + 1) plays.reply)
PlaysSo lines old new v line (Unopened fault) v' = StopsAtRestart old new v line fault v' × Appends v.written v'.written []

-- the end that goes with how a line came out, the last one or another
abbrev pub end_of_play : Bool → LineOutcome → Option ReplayEnd
end_of_play true Played = Some ended.Done
end_of_play false Played = None
end_of_play last BadLine = Some ended.BadLine
end_of_play last Unread = Some ended.NoMemory
end_of_play last Unanswered = Some ended.NoMemory
end_of_play last Unwritten = Some ended.WriteFault
end_of_play last (Unopened fault) = Some (ended_by fault.file fault.fault)

-- whether the line is counted as played
abbrev pub counts : LineOutcome → ℕ
counts Played = 1
counts BadLine = 0
counts Unread = 0
counts Unanswered = 1
counts Unwritten = 1
counts (Unopened fault) = 0

-- the state of a replay with the rest of its input, the number of bytes used, and the number of lines played
pub record ReplayStand : Type 0 where
  pub view : View
  pub ahead : Option (List ℕ)
  pub used : ℕ
  pub count : ℕ

abbrev pub stand_of : ReplayRun → (ℕ → ℕ) → Option (List ℕ) → Option (List ℕ) → ReplayStand
stand_of run words left written = record { view = view_of run.session words written; ahead = ahead run.reader left; used = run.reader.used; count = run.count }

-- a line was read and played
pub record LinePlayed (lines : List PropLine) (old new : DiskState) (v : View) (line : List ℕ) (last : Bool) (result : Option ReplayEnd) (v' : View) (count count' : ℕ) : Type 0 where
  pub play : LineOutcome
  pub plays : PlaysSo lines old new v line play v'
  pub result_is : result ≡ end_of_play last play
  pub counted : count' ≡ count + counts play

-- a run played the line that it had read
abbrev pub PlaysItsLine : List PropLine → DiskState → DiskState → ReplayRun → (ℕ → ℕ) → Option (List ℕ) → Bool → Option ReplayEnd → ReplayRun → (ℕ → ℕ) → Option (List ℕ) → Type 0
PlaysItsLine lines old new run words written last result run' words' now =
    LinePlayed lines old new (view_of run.session words written) run.line last result (view_of run'.session words' now) run.count run'.count

-- what was read
pub record Read (before : ReplayStand) (how : LineEnd) (line : List ℕ) (after : ReplayStand) : Type 0 where
  pub is_line : IsTrue (is_line line)
  pub consumed : how ≢ line_end.NoMemory → Consumes before.ahead after.ahead (line_used how line)
  pub used : how ≢ line_end.NoMemory → after.used ≡ before.used + length (line_used how line)
  pub bounded : after.used ≤ 2 ^ 40
  pub end : how ≡ line_end.End → IsAtEnd after.ahead
  pub long : how ≡ line_end.TooLong → length line ≡ 1048577
  pub past : how ≡ line_end.Past → (after.used ≡ 2 ^ 40) × IsMore after.ahead

-- the replay stops before a line is played
pub record StopsReading (old new : DiskState) (v v' : View) (count count' : ℕ) (how : ReplayEnd) (result : Option ReplayEnd) : Type 0 where
  pub untouched : Untouched old new v v'
  pub counted : count' ≡ count
  pub result_is : result ≡ Some how

-- the next line was read, and played if there was one
abbrev pub NextSo : List PropLine → DiskState → DiskState → ReplayStand → LineEnd → List ℕ → Option ReplayEnd → ReplayStand → Type 0
NextSo lines old new s line_end.Line line result s' = LinePlayed lines old new s.view line false result s'.view s.count s'.count
NextSo lines old new s line_end.End line result s' = LinePlayed lines old new s.view line true result s'.view s.count s'.count
NextSo lines old new s line_end.TooLong line result s' = StopsReading old new s.view s'.view s.count s'.count ended.BadLine result
NextSo lines old new s line_end.Past line result s' = StopsReading old new s.view s'.view s.count s'.count ended.BadLine result
NextSo lines old new s line_end.Fault line result s' = StopsReading old new s.view s'.view s.count s'.count ended.ReadFault result
NextSo lines old new s line_end.NoMemory line result s' = StopsReading old new s.view s'.view s.count s'.count ended.NoMemory result

pub record Next (lines : List PropLine) (old new : DiskState) (s : ReplayStand) (result : Option ReplayEnd) (s' : ReplayStand) : Type 0 where
  pub how : LineEnd
  pub line : List ℕ
  pub read : Read s how line s'
  pub next : NextSo lines old new s how line result s'

-- the answer of an event was written, or there was no memory for it, or a prefix of it was written and the output failed
abbrev pub TellsSo : ℕ → Line → Option (List ℕ) → Option (List ℕ) → LineOutcome → Type 0
TellsSo number tells written now Played = Appends written now (line_text number tells)
TellsSo number tells written now Unanswered = Appends written now []
TellsSo number tells written now Unwritten = WroteFront written now (line_text number tells)
TellsSo number tells written now BadLine = ⊥
TellsSo number tells written now Unread = ⊥
TellsSo number tells written now (Unopened fault) = ⊥

-- Faults come only if the count of the object rose in the call: that of the input, of the output, of the disk.
pub record Caused (input input' out out' disk disk' : ℕ) (how : Option ReplayEnd) : Type 0 where
  pub read_later : input ≤ input'
  pub write_later : out ≤ out'
  pub disk_later : disk ≤ disk'
  pub read : how ≡ Some ended.ReadFault → Rose input input'
  pub write : how ≡ Some ended.WriteFault → Rose out out'
  pub store : how ≡ Some ended.StoreFault → Rose disk disk'

-- what is known of the logs, which held these records before the lines of this input, once they were played
pub record KeptLogs (old new : DiskState) (first : WorldState) (words : ℕ → ℕ) (left : Option (List ℕ)) (played : List PlayedLine) (stop : ReplayEnd) (done : Acknowledged) : Type 0 where
  pub moments : LeavesBoth old new (SurvivesUntil (CutAt stop left (lines_in played)) done (LinkedWorld first) first words (events_of_lines played))
  pub last : (image : Image) → IsImage new image → SurvivesLast (CutAt stop left (lines_in played)) done (LinkedWorld first) first words (events_of_lines played) image
  pub reads : ReadsLogsAt stop left (lines_in played) new (also done (logged_in (events_of_lines played))) (world_after first (events_of_lines played))

-- Lines were played, until one of them ended the replay; nothing was written of a last line yet.
pub record Ran (lines : List PropLine) (old new : DiskState) (r : RunningWorld) (words words' : ℕ → ℕ) (left written now : Option (List ℕ)) (stop : ReplayEnd) (count : ℕ) : Type 0 where
  pub played : List PlayedLine
  pub spelled : AreSpelled played
  pub runs : Runs lines (Tells old) (world_of r) words old.faults (events_of_lines played)
  -- the words to come are those after the words that its events drew
  pub rest : (k : ℕ) → words' k ≡ behind (drawn_in (events_of_lines played)) words k
  pub kept : Tells old → RestsNow old r → (done : Acknowledged) → HoldsLogs old r done → KeptLogs old new (world_of r) words left played stop done
  pub promise : Tells old → (before : Hidden) → IsHidden (world_of r) before → FilesOpenThroughout before (world_of r) words (events_of_lines played)
  pub apart : Tells old → (before : Hidden) → LinkedWorld (world_of r) before → AreDrawsApart before → StayApart before (world_of r) words (events_of_lines played)
  pub run : RunBoth old new
  -- the disk counts each fault of the history
  pub counted_faults : faults_after old.faults (events_of_lines played) ≤ new.faults
  pub restart : Tells old → RestartStops stop left (lines_in played) (world_after (world_of r) (events_of_lines played))
  pub has_properties : HasProperties stop
  pub stops : (all : List ℕ) → left ≡ Some all → StopsAt stop all (lines_in played)
  pub text : List ℕ
  pub wrote : Appends written now text
  pub printed : IsPrinted stop text (transcript (events_of_lines played))
  pub counted : count ≡ length (lines_in played)

-- Lines were played, until one of them ended the replay, and its last line was written after their answers.
pub record RanToEnd (lines : List PropLine) (old new : DiskState) (r : RunningWorld) (words words' : ℕ → ℕ) (left written now : Option (List ℕ)) (how : ReplayEnd) : Type 0 where
  pub body : Option (List ℕ)
  pub stop : ReplayEnd
  pub count : ℕ
  pub ran : Ran lines old new r words words' left written body stop count
  pub closes : Closes stop count body now how
