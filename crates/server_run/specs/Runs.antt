-- A run of the server.
use Rattle.std.specs.Prelude.{◌≡◌, ◌<◌, ◌⊎◌, ℕ, Bool, true, false, [], Some}
use Rattle.hk_base.specs.Disk.{DiskState}
use Rattle.hist_cell.specs.History.{Closes, Meets}
use Rattle.prop_text.specs.declared.props.Props.{Props}
use Rattle.kms_core.specs.State.{IsService, service_of}
use Rattle.kms_core.specs.Users.{running}
use Rattle.name_core.specs.State.{IsNames, service_of as names_service}
use Rattle.kms_cell.specs.Entries.{KmsKnown}
use Rattle.kms_cell.specs.Steps.{KmsSteps}
use Rattle.kms_cell.specs.Tickets.{KmsAllows}
use Rattle.kms_cell.specs.Views.{KmsView, RunsOn}
use Rattle.name_history.specs.Asked.{NameAllows}
use Rattle.name_history.specs.Entries.{NameKnown}
use Rattle.name_history.specs.Steps.{NameSteps}
use Rattle.name_history.specs.Views.{NameView, NamesRunOn}
use Rattle.hk_shared.specs.Views.{OpeningView}
use Rattle.server_parts.specs.Doors.{DoorState}
use Rattle.server_parts.specs.Yards.{GivenBack, YardState}
use Rattle.cell_server.specs.Connections.{Serving}
use Rattle.cell_server.specs.Serves.{ServesAll}
use Rattle.cell_server.specs.declared.ends.ServeEnd.{ServeEnd}
use Rattle.cell_server.specs.declared.ends.ServeEnd.TheVariants as serve_end
use Rattle.server_run.specs.Opening.{BothOpened, LacksMemory, NoneOpened}
use Rattle.server_run.specs.declared.run.RunEnd.{RunEnd}
use Rattle.server_run.specs.declared.run.RunEnd.TheVariants as run_end

-- How the run ends, by how the serving ended and whether a disk failed. A failed disk counts for more than any other end, except that memory
-- ran out.
abbrev pub end_of : ServeEnd → Bool → RunEnd
end_of serve_end.NoMemory failed = run_end.NoMemory
end_of serve_end.Served true = run_end.StoreFault
end_of serve_end.Served false = run_end.Served
end_of serve_end.Closed true = run_end.StoreFault
end_of serve_end.Closed false = run_end.Closed
end_of serve_end.DoorFault true = run_end.StoreFault
end_of serve_end.DoorFault false = run_end.DoorFault

-- whether the disk of the key log or that of the edit log failed, by how many faults each has counted
abbrev pub DisksFailed : Bool → ℕ → ℕ → Type 0
DisksFailed true keys names = (0 < keys) ⊎ (0 < names)
DisksFailed false keys names = (keys ≡ 0) × (names ≡ 0)

-- A pass of the keys and the pass that the namesystem keeps have seen nothing yet of a history that begins with this state of the keys. No
-- batch has a front.
pub record BeginsServing {D W : Type 0} (k : KmsView D W) (keys : KmsKnown D W) (n : NameView D W) : Type 0 where
  pub keys_begin : (keys.start ≡ Some k) × (keys.seen ≡ []) × (keys.ended ≡ [])
  pub kept_begins : (n.keys.start ≡ Some k) × (n.keys.seen ≡ []) × (n.keys.ended ≡ [])
  pub no_fronts : n.fronts ≡ []

module _ {D W I O : Type 0} (state : D → DiskState) (to_come : W → ℕ → ℕ) (serves : Serving I O D W) (first second : ℕ → ℕ) where
  -- The services ran in their cells from these states on, until the cells were closed. Each has one legal history, which ends in its last
  -- state, and connections were served by entries of these histories. The fillers drew from the words `first` and `second`. What the
  -- namesystem's pass of the keys has seen in the end begins the history of the keys. The disk of each last state holds the log of its service,
  -- with or without the pending record.
  pub record RanInCells (port conns : ℕ) (door door' : DoorState I O) (end : ServeEnd) (k : KmsView D W) (n : NameView D W) (last_k : KmsView D W) (last_n : NameView D W) : Type 0 where
    -- what the first pass of each cell knows, and what it knows when no more connections are served
    pub keys : KmsKnown D W
    pub names : NameKnown D W
    pub keys' : KmsKnown D W
    pub names' : NameKnown D W
    pub begins : BeginsServing k keys n
    pub names_begin : (names.start ≡ Some n) × (names.seen ≡ []) × (names.ended ≡ [])
    pub served : ServesAll serves first second state to_come door keys names port conns end door' keys' names'
    pub names_closed : Closes (NameSteps state to_come) NameAllows names' last_n
    -- what the pass of the keys knows once the one that the namesystem kept was met into it
    pub met : KmsKnown D W
    pub kept_met : Meets keys' last_n.keys met
    pub keys_closed : Closes (KmsSteps state to_come) KmsAllows met last_k
    pub keys_run : RunsOn (state last_k.disk) last_k.kms
    pub names_run : NamesRunOn (state last_n.disk) last_n.names
    -- each service keeps its rules, and its log is on its own file
    pub keys_rules : IsService (service_of (running last_k.kms))
    pub names_rules : IsNames (names_service last_n.names)
    pub keys_file : last_k.kms.store.log.file ≡ 0
    pub names_file : last_n.names.store.log.log.file ≡ 1

  -- The same, if these are the disks that the cells left.
  pub record RanTo (port conns : ℕ) (door door' : DoorState I O) (end : ServeEnd) (k : KmsView D W) (n : NameView D W) (keys_disk names_disk : D) : Type 0 where
    pub last_k : KmsView D W
    pub last_n : NameView D W
    pub ran : RanInCells port conns door door' end k n last_k last_n
    pub keys_disk_is : keys_disk ≡ last_k.disk
    pub names_disk_is : names_disk ≡ last_n.disk

  -- Both logs were opened on the disks of a yard, the services ran until their cells were closed, and the disks were given back as the last
  -- state of each service has them. `failed` says whether either disk had counted a fault by then.
  pub record RanServer (props : Props) (words : W) (port conns : ℕ) (old new : YardState) (door door' : DoorState I O) (end : ServeEnd) (failed : Bool) : Type 0 where
    pub begun : YardState
    pub k : KmsView D W
    pub n : NameView D W
    pub opened : BothOpened state props old begun words k n.names n.disk
    pub last_k : KmsView D W
    pub last_n : NameView D W
    pub ran : RanInCells port conns door door' end k n last_k last_n
    pub mid : YardState
    pub keys_given : GivenBack 0 begun mid (state last_k.disk)
    pub names_given : GivenBack 1 mid new (state last_n.disk)
    pub disks : DisksFailed failed (state last_k.disk).faults (state last_n.disk).faults

  -- how a run of the server ends
  abbrev pub EndsAs : Props → W → ℕ → ℕ → YardState → YardState → DoorState I O → DoorState I O → RunEnd → Type 0
  EndsAs props words port conns old new door door' run_end.Served = RanServer props words port conns old new door door' serve_end.Served false
  EndsAs props words port conns old new door door' run_end.Closed = RanServer props words port conns old new door door' serve_end.Closed false
  EndsAs props words port conns old new door door' run_end.DoorFault = RanServer props words port conns old new door door' serve_end.DoorFault false
  EndsAs props words port conns old new door door' run_end.StoreFault =
      (end : ServeEnd) × (¬ (end ≡ serve_end.NoMemory)) × RanServer props words port conns old new door door' end true
  EndsAs props words port conns old new door door' (run_end.NotOpened file fault) = NoneOpened old new file fault × (door' ≡ door)
  EndsAs props words port conns old new door door' run_end.NoMemory =
      ((failed : Bool) × RanServer props words port conns old new door door' serve_end.NoMemory failed) ⊎ (LacksMemory state props old new × (door' ≡ door))

  -- The same from any state of the keys of which the passes have seen nothing yet.
  abbrev pub RanFromCells : ℕ → ℕ → DoorState I O → DoorState I O → ServeEnd → KmsKnown D W → NameView D W → D → D → Type 0
  RanFromCells port conns door door' end keys n keys_disk names_disk = (k : KmsView D W) → BeginsServing k keys n → RanTo port conns door door' end k n keys_disk names_disk

  -- The same from both services as they were opened.
  abbrev pub RanFromOpening : ℕ → ℕ → DoorState I O → DoorState I O → ServeEnd → OpeningView D W → D → D → Type 0
  RanFromOpening port conns door door' end opening keys_disk names_disk =
      (n : NameView D W) × (n.names ≡ opening.names) × (n.disk ≡ opening.disk) × RanTo port conns door door' end opening.keys.core n keys_disk names_disk
