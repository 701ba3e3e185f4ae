-- How a replay ends.
use Rattle.std.specs.Prelude.{◌≡◌, ◌⊎◌, ℕ, ◌<◌, ◌≤◌, ◌^◌, Bool, List, [], ◌∷◌, ◌++◌, length, count_by, take, Option, Some}
use Rattle.std.specs.Io.KnownBytes.{Appends}
use Rattle.hk_base.specs.declared.disk.Disk as disks
use Rattle.hk_base.specs.declared.outside.Source as sources
use Rattle.hk_base.specs.declared.outside.Sink as sinks
use Rattle.hk_base.specs.declared.outside.Words as random
use Rattle.hk_base.specs.Disk.{DiskState, Tells}
use Rattle.frame_log.specs.declared.fault.StartFault.{StartFault}
use Rattle.key_rows.specs.Table.{Table}
use Rattle.prop_text.specs.declared.props.Props.{Props}
use Rattle.kms_core.specs.State.{settled}
use Rattle.name_core.specs.State.{settled as settled_names}
use Rattle.name_store.specs.Table.{NameTable}
use Rattle.replay_text.specs.Events.{IsBad, SpellsLine}
use Rattle.hk_events.specs.declared.event.Event.{Event}
use Rattle.hk_events.specs.declared.event.Event.TheVariants.{RestartKms, RestartName}
use Rattle.world_run.specs.Acknowledged.{Acknowledged, also}
use Rattle.world_run.specs.Ledger.{Hidden}
use Rattle.world_run.specs.Linked.{WordsApart}
use Rattle.world_run.specs.Starts.{FailsAt, OpensBoth}
use Rattle.world_run.specs.World.{WorldState, first_world}
use Rattle.command_io.specs.Environment.{Environment}
use Rattle.command_io.specs.declared.ends.ReplayEnd.{ReplayEnd}
use Rattle.command_io.specs.declared.ends.ReplayEnd.TheVariants.{Done, AclRefused, AclRepeated, AclUnknown, AclTooLong, BadLine, DamagedKeys, DamagedNames, StoreFault, NoMemory, WriteFault, Spent}
use Rattle.command_io.specs.declared.props.PropsFault.{PropsFault}
use Rattle.command_io.specs.Ends.{ended_by, ended_by_props, last_line}
use Rattle.command_io.specs.Lines.{is_lf, lines_of, text_of}
use Rattle.command_io.specs.Properties.{HasPropsFault, ReadsProperties}
use Rattle.hk_runs.specs.Logs.{HiddenBefore, HoldsLogsOf, OnDisk, opened_logs}
use Rattle.hk_runs.specs.PlayedLines.{AreSpelled, PlayedLine, events_of_lines, lines_in, transcript}
use Rattle.hk_runs.specs.Run.{FilesOpenThroughout, Runs, StayApart, behind, drawn_in, faults_after, logged_in, world_after}

-- an input has at most 2^40 bytes
abbrev pub longest_input : ℕ
longest_input = 2 ^ 40

-- `lines` LF come before the first byte past the longest input
pub record IsPast (all : List ℕ) (lines : ℕ) : Type 0 where
  pub long : longest_input < length all
  pub place : count_by is_lf (take longest_input all) ≡ lines

-- the text has these lines first
abbrev pub StartsWith : List ℕ → List (List ℕ) → Type 0
StartsWith all lines = (after : List (List ℕ)) × (lines_of all ≡ lines ++ after)

-- the line after these begins within the longest input
abbrev pub BeginsWithin : List (List ℕ) → Type 0
BeginsWithin lines = length (text_of lines) < longest_input

-- after these lines the next line is a bad one, which begins within the longest input, or the text is too long there
abbrev pub BadNext : List ℕ → List (List ℕ) → Type 0
BadNext all lines =
    ((bad : List ℕ) × (more : List (List ℕ)) × (lines_of all ≡ lines ++ bad ∷ more) × IsBad bad × BeginsWithin lines) ⊎ (StartsWith all lines × IsPast all (length lines))

-- after these lines comes one that spells this event
abbrev pub NextSpells : List ℕ → List (List ℕ) → Event → Type 0
NextSpells all lines e = (line : List ℕ) × (more : List (List ℕ)) × (lines_of all ≡ lines ++ line ∷ more) × SpellsLine line e

-- after these lines comes a restart of either service
abbrev pub RestartNext : List ℕ → List (List ℕ) → Type 0
RestartNext all lines = NextSpells all lines RestartKms ⊎ NextSpells all lines RestartName

-- the place of the input at an end, after these lines
abbrev pub StopsAt : ReplayEnd → List ℕ → List (List ℕ) → Type 0
StopsAt Done all lines = (lines_of all ≡ lines) × (length all ≤ longest_input)
StopsAt BadLine all lines = BadNext all lines
StopsAt (DamagedKeys at) all lines = NextSpells all lines RestartKms
StopsAt (DamagedNames at) all lines = NextSpells all lines RestartName
StopsAt StoreFault all lines = RestartNext all lines
StopsAt Spent all lines = RestartNext all lines
StopsAt _ all lines = StartsWith all lines

-- the text is a prefix of the other
abbrev pub IsFront : List ℕ → List ℕ → Type 0
IsFront text whole = (more : List ℕ) × (text ++ more ≡ whole)

-- What is written of a transcript at an end: all of it, or a prefix if there was no memory for an answer or the output failed.
abbrev pub IsPrinted : ReplayEnd → List ℕ → List ℕ → Type 0
IsPrinted NoMemory text printed = IsFront text printed
IsPrinted WriteFault text printed = IsFront text printed
IsPrinted _ text printed = text ≡ printed

-- The replay stopped for the one cause, after `lines` lines, and ended with the other. The answers are followed by the last line of
-- that cause, or by the one for lack of memory, if there was none for it; or by a prefix of this, and the output failed.
pub record SaysEnd (stop how : ReplayEnd) (lines : ℕ) (printed text : List ℕ) : Type 0 where
  pub body : List ℕ
  pub is_printed : IsPrinted stop body printed
  pub last : ReplayEnd
  pub last_is : (last ≡ stop) ⊎ (last ≡ NoMemory)
  pub closes : ((how ≡ last) × (text ≡ body ++ last_line last lines)) ⊎ ((how ≡ WriteFault) × IsFront text (body ++ last_line last lines))

-- The properties could not be read, and nothing else was done: `same` says that all else is as it was.
pub record BadProperties (same : Type 0) (acls written now : Option (List ℕ)) (how : ReplayEnd) : Type 0 where
  pub fault : PropsFault
  pub has_fault : HasPropsFault acls fault
  pub untouched : same
  pub text : List ℕ
  pub wrote : Appends written now text
  pub says : SaysEnd (ended_by_props fault) how 0 [] text

-- the end is none of those that only a fault of the properties brings about
abbrev pub HasProperties : ReplayEnd → Type 0
HasProperties (AclRefused number) = ⊥
HasProperties (AclRepeated number) = ⊥
HasProperties (AclUnknown number) = ⊥
HasProperties AclTooLong = ⊥
HasProperties _ = Unit {0}

-- The logs could not be opened, and nothing was played: `same` says that input and random source are as they were.
pub record Unopened (same : Type 0) (old new : DiskState) (written now : Option (List ℕ)) (how : ReplayEnd) : Type 0 where
  pub file : ℕ
  pub fault : StartFault
  pub not_opened : OpensBoth old new (FailsAt file fault)
  pub untouched : same
  pub text : List ℕ
  pub wrote : Appends written now text
  pub says : SaysEnd (ended_by file fault) how 0 [] text

-- if the source tells the input, a line that spells this event comes after these lines
abbrev pub ComesNext : Option (List ℕ) → List (List ℕ) → Event → Type 0
ComesNext left lines e = (all : List ℕ) → left ≡ Some all → NextSpells all lines e

-- after these lines of the input comes a restart of either service, which may have been cut short
abbrev pub IsCutShort : Option (List ℕ) → List (List ℕ) → Type 0
IsCutShort left lines = ComesNext left lines RestartKms ⊎ ComesNext left lines RestartName

-- At an end after these lines of the input the disk holds both logs, unless a restart may have been cut short. Want of memory leaves
-- the logs too, unless a restart comes next.
abbrev pub ReadsLogsAt : ReplayEnd → Option (List ℕ) → List (List ℕ) → DiskState → Acknowledged → WorldState → Type 0
ReadsLogsAt (DamagedKeys at) left lines new done w = Unit {0}
ReadsLogsAt (DamagedNames at) left lines new done w = Unit {0}
ReadsLogsAt StoreFault left lines new done w = Unit {0}
ReadsLogsAt NoMemory left lines new done w = HoldsLogsOf new done w ⊎ IsCutShort left lines
ReadsLogsAt Spent left lines new done w = Unit {0}
ReadsLogsAt _ left lines new done w = HoldsLogsOf new done w

-- which restart may have been cut short at an end after these lines of the input: the one that comes next
abbrev pub CutAt : ReplayEnd → Option (List ℕ) → List (List ℕ) → Event → Type 0
CutAt StoreFault left lines e = ComesNext left lines e
CutAt NoMemory left lines e = ComesNext left lines e
CutAt Spent left lines e = ComesNext left lines e
CutAt _ left lines e = ⊥

-- the last opening of the key log is used, the record that was pending kept or not
abbrev pub KeysSpent : WorldState → Type 0
KeysSpent w = (kept : Bool) × ((settled kept w.keys).table.opening ≡ 4294967295)

-- the same of the edit log
abbrev pub NamesSpent : WorldState → Type 0
NamesSpent w = (kept : Bool) × ((settled_names kept w.names).table.opening ≡ 4294967295)

-- the last opening of a log is used, and after these lines of the input comes a restart of the service that this log is of
abbrev pub IsOpeningSpent : Option (List ℕ) → List (List ℕ) → WorldState → Type 0
IsOpeningSpent left lines w = (KeysSpent w × ComesNext left lines RestartKms) ⊎ (NamesSpent w × ComesNext left lines RestartName)

-- why a restart after these lines of the input could not open its log, if the disk tells its content: it is never damaged, and
-- spent only with the last opening of that log
abbrev pub RestartStops : ReplayEnd → Option (List ℕ) → List (List ℕ) → WorldState → Type 0
RestartStops (DamagedKeys at) left lines w = ⊥
RestartStops (DamagedNames at) left lines w = ⊥
RestartStops Spent left lines w = IsOpeningSpent left lines w
RestartStops _ left lines w = Unit {0}

-- Under these properties, lines of the input were played from the world on that the two logs were found to stand for: their events
-- happened one after another.
pub record Played (props : Props) (old new : DiskState) (words : ℕ → ℕ) (left : Option (List ℕ)) (stop : ReplayEnd) (played : List PlayedLine) : Type 0 where
  pub table : Table
  pub names : NameTable
  pub before : ℕ
  pub spelled : AreSpelled played
  pub runs : Runs props.lines (Tells old) (first_world props.sizes table names) words before (events_of_lines played)
  -- the count of faults in the run is the disk's: it begins at no fewer than the disk had, and ends at no more than it has
  pub began : old.faults ≤ before
  pub ended : faults_after before (events_of_lines played) ≤ new.faults
  pub on_disk : Tells old → OnDisk old new words props.sizes table names (events_of_lines played) (CutAt stop left (lines_in played))
  -- with a ledger of draws that the files at the start allow, each world on the way is linked, and its zone files open
  pub promise : Tells old → (h : Hidden) → HiddenBefore old h → FilesOpenThroughout h (first_world props.sizes table names) words (events_of_lines played)
  -- and if the draws before are apart, they stay so
  pub apart : Tells old → (h : Hidden) → HiddenBefore old h → WordsApart h → StayApart h (first_world props.sizes table names) words (events_of_lines played)
  pub reads : (telling : Tells old) → let found = on_disk telling in
      let history = events_of_lines played in
      ReadsLogsAt stop left (lines_in played) new (also (opened_logs found.commands table found.ops names) (logged_in history)) (world_after (first_world props.sizes table names) history)
  pub restart : Tells old → RestartStops stop left (lines_in played) (world_after (first_world props.sizes table names) (events_of_lines played))
  pub stops : (all : List ℕ) → left ≡ Some all → StopsAt stop all (lines_in played)
  pub has_properties : HasProperties stop

-- Lines were played: `words` were to come before, and `words'` are to come now.
pub record PlaysOn (props : Props) (old new : DiskState) (words words' : ℕ → ℕ) (left written now : Option (List ℕ)) (how : ReplayEnd) : Type 0 where
  pub played_lines : List PlayedLine
  pub stop : ReplayEnd
  pub played : Played props old new words left stop played_lines
  -- the words to come are those after the words that its events drew
  pub rest : (k : ℕ) → words' k ≡ behind (drawn_in (events_of_lines played_lines)) words k
  pub text : List ℕ
  pub wrote : Appends written now text
  pub says : SaysEnd stop how (length (lines_in played_lines)) (transcript (events_of_lines played_lines)) text

-- Under these properties, a replay of what was left of an input, with these words to come, wrote after the old output,
-- and this is how it ended; `words'` are to come now. `same` says that input and random source are unchanged.
abbrev pub ReplayUnder : Props → Type 0 → DiskState → DiskState → (ℕ → ℕ) → (ℕ → ℕ) → Option (List ℕ) → Option (List ℕ) → Option (List ℕ) → ReplayEnd → Type 0
ReplayUnder props same old new words words' left written now how = Unopened same old new written now how ⊎ PlaysOn props old new words words' left written now how

-- The properties were read. Each call of the key management service is judged by their lines, and it has their sizes.
pub record HasRead (same : Type 0) (old new : DiskState) (acls acls' : Option (List ℕ)) (words words' : ℕ → ℕ) (left written now : Option (List ℕ)) (how : ReplayEnd) : Type 0 where
  pub props : Props
  pub read : ReadsProperties acls acls' props
  pub replay : ReplayUnder props same old new words words' left written now how

-- A replay read the properties first, and replayed the input under them; or it ended since they could not be read.
-- `same_disk` says that the disk is unchanged, and `same` that input and random source are.
abbrev pub Replay : Type 0 → Type 0 → DiskState → DiskState → Option (List ℕ) → Option (List ℕ) → (ℕ → ℕ) → (ℕ → ℕ) → Option (List ℕ) → Option (List ℕ) → Option (List ℕ) → ReplayEnd → Type 0
Replay same_disk same old new acls acls' words words' left written now how =
    BadProperties (same_disk × same) acls written now how ⊎ HasRead same old new acls acls' words words' left written now how

module _ {D A S K W : Type 0} (of_disk : disks.Ghosts D) (of_acls : sources.Ghosts A) (of_input : sources.Ghosts S) (of_out : sinks.Ghosts K) (of_rand : random.Ghosts W) (old new : Environment D A S K W) where
  -- the same over what a command works on
  abbrev pub Replays : ReplayEnd → Type 0
  Replays how =
      Replay (new.disk ≡ old.disk) ((new.input ≡ old.input) × (new.rand ≡ old.rand)) (of_disk.state old.disk) (of_disk.state new.disk) (of_acls.left old.acls) (of_acls.left new.acls)
      (of_rand.to_come old.rand) (of_rand.to_come new.rand) (of_input.left old.input) (of_out.written old.out) (of_out.written new.out) how
