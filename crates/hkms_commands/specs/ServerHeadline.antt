-- What a server keeps of zone files and of completed re-encryptions, whatever its threads do.
use Rattle.std.specs.Prelude.{◌≡◌, ◌⊎◌, ℕ, Bool, List, Option}
use Rattle.hk_base.specs.Disk.{DiskState}
use Rattle.frame_log.specs.declared.fault.StartFault.{StartFault}
use Rattle.prop_text.specs.declared.props.Props.{Props}
use Rattle.rand_chacha.specs.ChaCha.{ChaCha}
use Rattle.world_run.specs.Kept.{ImageKept}
use Rattle.world_run.specs.Ledger.{Past}
use Rattle.server_parts.specs.Doors.{DoorState}
use Rattle.server_parts.specs.Yards.{YardState}
use Rattle.cell_server.specs.Connections.{Serving}
use Rattle.cell_server.specs.declared.ends.ServeEnd.{ServeEnd}
use Rattle.server_run.specs.Opening.{NoneOpened, OpenedInVain}
use Rattle.server_run.specs.Runs.{RanServer, end_of}
use Rattle.server_laws.specs.ServerFiles.{ServerKept}
use Rattle.command_io.specs.declared.ends.ReplayEnd.TheVariants as replay_end
use Rattle.command_io.specs.Ends.{Reports, WantsMemory, ended_by}
use Rattle.command_io.specs.Properties.{ReadsProperties}
use Rattle.server_command.specs.Serve.{RefusesToServe, ReportsRun, generator_of, words_after}

-- No connection was served, for this cause. The two files keep the promise with what was known before.
pub record NoneServed (Cause : Type 0) (past : Past) (yard' : YardState) : Type 0 where
  pub cause : Cause
  pub again : ImageKept past yard'.reads

module _ {I O : Type 0} (acls acls' : Option (List ℕ)) (yard yard' : YardState) (door door' : DoorState I O) (written now : Option (List ℕ)) (status : ℕ) where
  -- The properties were read, but the log of this file could not be opened, for this fault. The last line and the status are those of the fault,
  -- and no connection was accepted.
  pub record CannotOpenLogs : Type 0 where
    pub props : Props
    pub read : ReadsProperties acls acls' props
    pub file : ℕ
    pub fault : StartFault
    pub not_opened : NoneOpened yard yard' file fault
    pub idle : door' ≡ door
    pub reports : Reports (ended_by file fault) written now status

  -- The properties were read, but there was no memory before a disk was taken, and no connection was accepted.
  pub record LacksRoom : Type 0 where
    pub props : Props
    pub read : ReadsProperties acls acls' props
    pub untouched : yard' ≡ yard
    pub idle : door' ≡ door
    pub reports : Reports replay_end.NoMemory written now status

  -- The properties were read and both logs were opened, but there was no memory for the cells. The disks are gone with the services, and no
  -- connection was accepted.
  pub record LosesDisks {D : Type 0} (state : D → DiskState) : Type 0 where
    pub props : Props
    pub read : ReadsProperties acls acls' props
    pub vain : OpenedInVain state props yard yard'
    pub idle : door' ≡ door
    pub reports : Reports replay_end.NoMemory written now status

  -- Why no connection was served: there was no memory to read the words, and all but the output is as it was, as `unread` says; the properties
  -- were refused, and yard, door and random words are as they were, as `same` says; a log could not be opened; or there was no memory.
  abbrev pub CannotServe : Type 0 → Type 0 → Type 0
  CannotServe unread same = (WantsMemory unread written now status ⊎ RefusesToServe same acls written now status) ⊎ (CannotOpenLogs ⊎ LacksRoom)

module _ {D I O : Type 0} (state : D → DiskState) (to_come : ChaCha → ℕ → ℕ) (serves : Serving I O D ChaCha) where
  -- The properties were read, both services ran in their cells until these were closed, and the disks were given back (`RanServer`). The
  -- histories of both services keep the promise.
  pub record ServerRunKept (past : Past) (port conns : ℕ) (acls acls' : Option (List ℕ)) (words : ℕ → ℕ) (yard yard' : YardState) (door door' : DoorState I O) (written now : Option (List ℕ)) (status : ℕ) : Type 0 where
    pub props : Props
    pub read : ReadsProperties acls acls' props
    pub end : ServeEnd
    pub failed : Bool
    pub reports : ReportsRun (end_of end failed) written now status
    pub ran : RanServer state to_come serves (to_come (generator_of (words_after 8 words))) (to_come (generator_of (words_after 16 words))) props (generator_of words) port conns yard yard' door door' end failed
    pub keeps : ServerKept state past yard' ran.n ran.ran.names_closed.all ran.last_k ran.last_n

  -- What a server keeps, whatever its status, each with its cause. The disks are gone only if there was no memory once both logs were open.
  abbrev pub ServerKeepsFiles : Type 0 → Type 0 → Past → ℕ → ℕ → Option (List ℕ) → Option (List ℕ) → (ℕ → ℕ) → YardState → YardState → DoorState I O → DoorState I O → Option (List ℕ) → Option (List ℕ) → ℕ → Type 0
  ServerKeepsFiles unread same past port conns acls acls' words yard yard' door door' written now status =
      NoneServed (CannotServe acls acls' yard yard' door door' written now status unread same) past yard'
      ⊎ (ServerRunKept past port conns acls acls' words yard yard' door door' written now status ⊎ LosesDisks acls acls' yard yard' door door' written now status state)
