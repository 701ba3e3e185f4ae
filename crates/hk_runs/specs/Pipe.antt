-- A connection to both services.
use Rattle.std.specs.Prelude.{◌≡◌, ◌⊎◌, ◌≤◌, ℕ, List, [], ◌++◌, map, Option}
use Rattle.std.specs.List.{AllByRecursion}
use Rattle.hk_base.specs.declared.disk.Disk as disks
use Rattle.hk_base.specs.declared.outside.Source as sources
use Rattle.hk_base.specs.declared.outside.Sink as sinks
use Rattle.hk_base.specs.declared.outside.Words as random
use Rattle.hk_base.specs.Disk.{DiskState, Tells}
use Rattle.frame_log.specs.declared.fault.StartFault.{StartFault}
use Rattle.key_rows.specs.Table.{Table}
use Rattle.name_store.specs.Table.{NameTable}
use Rattle.prop_text.specs.declared.props.Props.{Props}
use Rattle.world_run.specs.Starts.{FailsAt, OpensBoth}
use Rattle.world_run.specs.World.{first_world}
use Rattle.world_run.specs.Acknowledged.{also}
use Rattle.world_run.specs.Ledger.{Hidden}
use Rattle.world_run.specs.Linked.{WordsApart}
use Rattle.http_wire.specs.Reading.{ahead}
use Rattle.hk_base.specs.declared.ended.Ended.{Ended}
use Rattle.hk_base.specs.declared.ended.Ended.TheVariants.{End, Closed, TooLong, Wire, ReadFault, WriteFault, NoMemory}
use Rattle.hk_serve.specs.Served.{Served}
use Rattle.hk_serve.specs.Transactions.{Transaction}
use Rattle.world_desk.specs.Orders.{AnsweredEvent, AreEventsOf}
use Rattle.command_io.specs.Environment.{Environment}
use Rattle.command_io.specs.declared.props.PropsFault.{PropsFault}
use Rattle.command_io.specs.Properties.{HasPropsFault, ReadsProperties}
use Rattle.hk_runs.specs.Logs.{HiddenBefore, HoldsLogsOf, NoRestart, OnDisk, opened_logs}
use Rattle.command_io.specs.Ends.{ended_by, ended_by_props, status_of}
use Rattle.hk_runs.specs.Run.{FilesOpenThroughout, Happened, History, Runs, StayApart, behind, drawn_in, faults_after, logged_in, world_after}

-- the events of a history with their answers
abbrev pub answered_in : History → List AnsweredEvent
answered_in history = map (λ (h : Happened). (h.event, h.reply)) history

-- A transaction of a user is the next events of a history, all at one moment: those of its call or its order, which have its reply, and
-- after a submission those of the drive that it is followed by.
pub record IsTransactionOf (earlier : History) (user : List ℕ) (done : Transaction) (later : History) : Type 0 where
  pub now : ℕ
  pub happened : History
  pub at_once : AllByRecursion (λ (h : Happened). h.now ≡ now) happened
  pub events : AreEventsOf user done (answered_in happened)
  pub grows : later ≡ happened ++ earlier

-- Under these properties, a connection was served from the world on that the two logs were found to stand for: its requests are
-- those of the bytes that were left of the input, the events of each happen after those before it, and the responses were written
-- after the old output. Bytes that were read after the last request are unused. `words'` are to come now.
pub record Converses (props : Props) (old new : DiskState) (words words' : ℕ → ℕ) (left left' written now : Option (List ℕ)) (how : Ended) : Type 0 where
  pub table : Table
  pub names : NameTable
  pub before : ℕ
  pub history : History
  pub unused : List ℕ
  pub served : Served IsTransactionOf (record { ahead = left; desk = []; written = written }) (record { ahead = ahead unused left'; desk = history; written = now }) how
  pub runs : Runs props.lines (Tells old) (first_world props.sizes table names) words before history
  -- the words to come are those after the words that its events drew
  pub rest : (k : ℕ) → words' k ≡ behind (drawn_in history) words k
  -- the count of faults in the events is the disk's: it begins at no fewer than the disk had, and ends at no more than it has
  pub began : old.faults ≤ before
  pub ended : faults_after before history ≤ new.faults
  pub on_disk : Tells old → OnDisk old new words props.sizes table names history NoRestart
  pub promise : Tells old → (h : Hidden) → HiddenBefore old h → FilesOpenThroughout h (first_world props.sizes table names) words history
  pub apart : Tells old → (h : Hidden) → HiddenBefore old h → WordsApart h → StayApart h (first_world props.sizes table names) words history
  pub reads : (tells : Tells old) → let found = on_disk tells in HoldsLogsOf new (also (opened_logs found.commands table found.ops names) (logged_in history)) (world_after (first_world props.sizes table names) history)

-- the status of a connection
abbrev pub connection_status : Ended → ℕ
connection_status End = 0
connection_status Closed = 0
connection_status Wire = 3
connection_status TooLong = 3
connection_status NoMemory = 6
connection_status ReadFault = 7
connection_status WriteFault = 8

-- The properties could not be read, and nothing else was done: `same` says that all else is as it was.
pub record CannotReadProperties (same : Type 0) (acls : Option (List ℕ)) (status : ℕ) : Type 0 where
  pub fault : PropsFault
  pub has_fault : HasPropsFault acls fault
  pub untouched : same
  pub status_is : status ≡ status_of (ended_by_props fault)

-- A log could not be opened, and nothing was read or written: `same` says that all but the disk is as it was.
pub record CannotOpenLog (same : Type 0) (old new : DiskState) (status : ℕ) : Type 0 where
  pub file : ℕ
  pub fault : StartFault
  pub not_opened : OpensBoth old new (FailsAt file fault)
  pub untouched : same
  pub status_is : status ≡ status_of (ended_by file fault)

-- The connection was served.
pub record Connects (props : Props) (old new : DiskState) (words words' : ℕ → ℕ) (left left' written now : Option (List ℕ)) (status : ℕ) : Type 0 where
  pub how : Ended
  pub converses : Converses props old new words words' left left' written now how
  pub status_is : status ≡ connection_status how

-- Under these properties, both logs were opened and the connection served, or a log could not be opened.
abbrev pub PipeUnder : Props → Type 0 → DiskState → DiskState → (ℕ → ℕ) → (ℕ → ℕ) → Option (List ℕ) → Option (List ℕ) → Option (List ℕ) → Option (List ℕ) → ℕ → Type 0
PipeUnder props same old new words words' left left' written now status = CannotOpenLog same old new status ⊎ Connects props old new words words' left left' written now status

-- The properties were read. Each call is judged by their lines, and the service has their sizes.
pub record PipesUnder (same : Type 0) (old new : DiskState) (acls acls' : Option (List ℕ)) (words words' : ℕ → ℕ) (left left' written now : Option (List ℕ)) (status : ℕ) : Type 0 where
  pub props : Props
  pub read : ReadsProperties acls acls' props
  pub pipe : PipeUnder props same old new words words' left left' written now status

-- The properties were read first, then both logs were opened, and then the connection was served. What could not be done ends it,
-- and nothing is written of that. `same_disk` says that the disk is unchanged, and `same` that all else is, except for the properties.
abbrev pub Pipe : Type 0 → Type 0 → DiskState → DiskState → Option (List ℕ) → Option (List ℕ) → (ℕ → ℕ) → (ℕ → ℕ) → Option (List ℕ) → Option (List ℕ) → Option (List ℕ) → Option (List ℕ) → ℕ → Type 0
Pipe same_disk same old new acls acls' words words' left left' written now status =
    CannotReadProperties (same_disk × same) acls status ⊎ PipesUnder same old new acls acls' words words' left left' written now status

module _ {D A S K W : Type 0} (of_disk : disks.Ghosts D) (of_acls : sources.Ghosts A) (of_input : sources.Ghosts S) (of_out : sinks.Ghosts K) (of_rand : random.Ghosts W) (old new : Environment D A S K W) where
  -- the same over what a command works on; `same_clock` says that the clock is unchanged
  abbrev pub Pipes : Type 0 → ℕ → Type 0
  Pipes same_clock status =
      Pipe (new.disk ≡ old.disk) ((new.input ≡ old.input) × (new.out ≡ old.out) × (new.rand ≡ old.rand) × same_clock) (of_disk.state old.disk) (of_disk.state new.disk)
      (of_acls.left old.acls) (of_acls.left new.acls) (of_rand.to_come old.rand) (of_rand.to_come new.rand) (of_input.left old.input) (of_input.left new.input)
      (of_out.written old.out) (of_out.written new.out) status
