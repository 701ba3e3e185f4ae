-- The events of a command over the disk, from the opened logs on.
use Rattle.std.specs.Prelude.{◌≡◌, ◌≤◌, ℕ, List, ◌∷◌}
use Rattle.hk_base.specs.Disk.{DiskState, Tells}
use Rattle.key_rows.specs.Table.{Table}
use Rattle.name_store.specs.Table.{NameTable}
use Rattle.prop_text.specs.declared.props.Props.{Props}
use Rattle.hk_events.specs.declared.event.Event.{Event}
use Rattle.hk_events.specs.declared.event.Line.{Line}
use Rattle.world_run.specs.Acknowledged.{also}
use Rattle.world_run.specs.Ledger.{Hidden}
use Rattle.world_run.specs.Linked.{WordsApart}
use Rattle.world_run.specs.World.{WorldState, first_world}
use Rattle.hk_runs.specs.Logs.{HiddenBefore, HoldsLogsOf, NoRestart, OnDisk, opened_logs}
use Rattle.hk_runs.specs.Run.{FilesOpenThroughout, Happened, History, Runs, StayApart, behind, drawn_in, faults_after, logged_in, world_after}
pub use Rattle.world_events.specs.Events.{HoldsSame, LeadsAt, standing_of}

-- an event is added to a history, with this answer and at this moment
pub record AddsEvent (now : ℕ) (earlier : History) (e : Event) (answer : Line) (later : History) : Type 0 where
  pub happened : Happened
  pub later_is : later ≡ happened ∷ earlier
  pub event_is : happened.event ≡ e
  pub answer_is : happened.reply ≡ answer
  pub now_is : happened.now ≡ now

-- Under these properties, both logs were opened, and events happened from the world on that they were found to stand for. `words'` are to
-- come now.
pub record Worked (props : Props) (old new : DiskState) (words words' : ℕ → ℕ) : Type 0 where
  pub table : Table
  pub names : NameTable
  pub before : ℕ
  pub history : History
  pub runs : Runs props.lines (Tells old) (first_world props.sizes table names) words before history
  -- the words to come are those after the words that its events drew
  pub rest : (k : ℕ) → words' k ≡ behind (drawn_in history) words k
  -- the count of faults in the events is the disk's: it begins at no fewer than the disk had, and ends at no more than it has
  pub began : old.faults ≤ before
  pub ended : faults_after before history ≤ new.faults
  pub on_disk : Tells old → OnDisk old new words props.sizes table names history NoRestart
  pub promise : Tells old → (h : Hidden) → HiddenBefore old h → FilesOpenThroughout h (first_world props.sizes table names) words history
  pub apart : Tells old → (h : Hidden) → HiddenBefore old h → WordsApart h → StayApart h (first_world props.sizes table names) words history
  pub reads : (tells : Tells old) → let found = on_disk tells in HoldsLogsOf new (also (opened_logs found.commands table found.ops names) (logged_in history)) (world_after (first_world props.sizes table names) history)

-- the world at the first event, and the world in the end
abbrev pub world_before : {props : Props} {old new : DiskState} {words words' : ℕ → ℕ} → Worked props old new words words' → WorldState
world_before {props} worked = first_world props.sizes worked.table worked.names

abbrev pub last_world : {props : Props} {old new : DiskState} {words words' : ℕ → ℕ} → Worked props old new words words' → WorldState
last_world worked = world_after (world_before worked) worked.history
