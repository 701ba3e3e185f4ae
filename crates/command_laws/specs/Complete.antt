-- What a command does if it is given what is in its grammars, and nothing outside fails.
use Rattle.std.specs.Prelude.{◌≡◌, ◌≢◌, ◌⊎◌, ℕ, IsTrue, List, [], ◌∷◌, Option}
use Rattle.std.specs.Io.KnownBytes.{Appends, IsAtEnd}
use Rattle.hk_base.specs.Disk.{DiskState}
use Rattle.hk_base.specs.Faults.{Rose}
use Rattle.hk_base.specs.declared.ended.Ended.{Ended}
use Rattle.hk_base.specs.declared.ended.Ended.TheVariants as ended
use Rattle.prop_text.specs.declared.props.Props.{Props}
use Rattle.rand_chacha.specs.ChaCha.{ChaCha}
use Rattle.server_parts.specs.Doors.{DoorState}
use Rattle.server_parts.specs.Yards.{YardState}
use Rattle.cell_server.specs.Connections.{Serving}
use Rattle.server_run.specs.declared.run.RunEnd.TheVariants as run_end
use Rattle.command_io.specs.declared.ends.ReplayEnd.{ReplayEnd}
use Rattle.command_io.specs.declared.ends.ReplayEnd.TheVariants as replay_end
use Rattle.command_io.specs.Lines.{lines_of}
use Rattle.hk_runs.specs.Pipe.{Converses, Pipe}
use Rattle.hk_runs.specs.PlayedLines.{PlayedLine, events_of_lines, lines_in, transcript}
use Rattle.command_io.specs.Ends.{WantsMemory, status_of}
use Rattle.hk_runs.specs.Replay.{Played, Replay}
use Rattle.hk_runs.specs.Run.{History, faults_after}
use Rattle.server_command.specs.Serve.{RunsUnder, Serves}
use Rattle.command_laws.specs.Good.{FaultCounts, GoodDisk, GoodLines, GoodProperties, GoodRequests, GoodYard, HasCauses, NoneRose}

-- the disk's count of faults rose in no event of a history, so that none was answered by a store fault
abbrev pub NeverFails : ℕ → History → Type 0
NeverFails before [] = Unit {0}
NeverFails before (h ∷ earlier) = ¬ Rose (faults_after before earlier) h.faults × NeverFails before earlier

-- All lines of an input were played, and the answers of their events were written.
pub record PlaysAll (props : Props) (old new : DiskState) (words : ℕ → ℕ) (left : Option (List ℕ)) (all : List ℕ) (written now : Option (List ℕ)) : Type 0 where
  pub played_lines : List PlayedLine
  pub played : Played props old new words left replay_end.Done played_lines
  pub whole : lines_in played_lines ≡ lines_of all
  pub untroubled : NeverFails played.before (events_of_lines played_lines)
  pub wrote : Appends written now (transcript (events_of_lines played_lines))

-- All requests of an input were served, and their responses were written.
pub record ConnectsToEnd (props : Props) (old new : DiskState) (words words' : ℕ → ℕ) (left left' written now : Option (List ℕ)) : Type 0 where
  pub how : Ended
  pub to_end : (how ≡ ended.End) ⊎ (how ≡ ended.Closed)
  pub converses : Converses props old new words words' left left' written now how
  pub untroubled : NeverFails converses.before converses.history

-- What `hkms` does at the words of a replay (its clauses [replay], [read], [write] and [store]): with good properties, good lines and good
-- logs, if no count rises and no restart finds its last opening used, it plays all lines, or there is no memory.
abbrev pub ReplayIsComplete : (same_disk same unread : Type 0) (old new : DiskState) (acls acls' : Option (List ℕ)) (words words' : ℕ → ℕ) (left left' written now : Option (List ℕ)) (before after : FaultCounts) (status : ℕ) → Type 0
ReplayIsComplete same_disk same unread old new acls acls' words words' left left' written now before after status =
    ((how : ReplayEnd) × (status ≡ status_of how) × Replay same_disk same old new acls acls' words words' left written now how × (status ≡ 0 → IsAtEnd left')) ⊎ WantsMemory unread written now status
    → HasCauses before after status → NoneRose before after → before.store ≡ old.faults → after.store ≡ new.faults
    → (properties : GoodProperties acls) (lines : GoodLines left) → GoodDisk old → status ≢ 10
    → ((status ≡ 0) × PlaysAll properties.props old new words left lines.all written now) ⊎ (status ≡ 6)

-- The same at the words of a connection: with good properties, good requests and good logs, if no count rises, it answers all requests, or
-- there is no memory.
abbrev pub PipeIsComplete : (same_disk same unread : Type 0) (old new : DiskState) (acls acls' : Option (List ℕ)) (words words' : ℕ → ℕ) (left left' written now : Option (List ℕ)) (before after : FaultCounts) (status : ℕ) → Type 0
PipeIsComplete same_disk same unread old new acls acls' words words' left left' written now before after status =
    Pipe same_disk same old new acls acls' words words' left left' written now status ⊎ WantsMemory unread written now status
    → HasCauses before after status → NoneRose before after → before.store ≡ old.faults → after.store ≡ new.faults
    → (properties : GoodProperties acls) → GoodRequests left → GoodDisk old
    → ((status ≡ 0) × ConnectsToEnd properties.props old new words words' left left' written now) ⊎ (status ≡ 6)

module _ {D I O : Type 0} (state : D → DiskState) (to_come : ChaCha → ℕ → ℕ) (serves : Serving I O D ChaCha) where
  -- The same at the words of a server: with good properties and good logs, if no count rises, it serves all connections, or there is no memory.
  -- If the door is closed in the end, it may have served those that came before.
  abbrev pub ServeIsComplete : (same others unread : Type 0) (port conns : ℕ) (acls acls' : Option (List ℕ)) (words words' : ℕ → ℕ) (yard yard' : YardState) (door door' : DoorState I O) (written now : Option (List ℕ)) (before after : FaultCounts) (status : ℕ) → Type 0
  ServeIsComplete same others unread port conns acls acls' words words' yard yard' door door' written now before after status =
      (Serves state to_come serves same port conns acls acls' words words' yard yard' door door' written now status × others) ⊎ WantsMemory unread written now status
      → HasCauses before after status → NoneRose before after
      → (properties : GoodProperties acls) → GoodYard yard
      → ((status ≡ 0)
      × (RunsUnder state to_come serves properties.props port conns words yard yard' door door' run_end.Served
      ⊎ (IsTrue door'.closed × RunsUnder state to_come serves properties.props port conns words yard yard' door door' run_end.Closed))) ⊎ (status ≡ 6)
