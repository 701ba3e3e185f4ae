-- What `hkms` does, over what it works on.
use Rattle.std.specs.Prelude.{◌≡◌, ◌⊎◌, ℕ, IsTrue, List, Result}
use Rattle.std.specs.Io.KnownBytes.{IsAtEnd}
use Rattle.clap.specs.Words.{Text}
use Rattle.hk_base.specs.declared.disk.Disk as disks
use Rattle.hk_base.specs.declared.outside.Source as sources
use Rattle.hk_base.specs.declared.outside.Sink as sinks
use Rattle.hk_base.specs.declared.outside.Words as random
use Rattle.server_parts.specs.declared.door.Door as doors
use Rattle.server_parts.specs.declared.yard.Yard as yards
use Rattle.world_run.specs.Ledger.{Past}
use Rattle.world_run.specs.Linked.{SoundFiles}
use Rattle.cell_server.specs.Connections.{ServesEnds}
use Rattle.command_io.specs.Ends.{RefusesUsage, ShowsText, WantsMemory, status_of}
use Rattle.command_io.specs.Environment.{Environment, environment}
use Rattle.command_io.specs.declared.ends.ReplayEnd.{ReplayEnd}
use Rattle.clap_lines.specs.declared.told.OrderFault.{OrderFault}
use Rattle.command_line.specs.Orders.{Names}
use Rattle.command_line.specs.declared.order.Order.{Order}
use Rattle.command_line.specs.declared.order.Order.TheVariants.{Serve}
use Rattle.check_run.specs.Checks.{Checks}
use Rattle.check_run.specs.Looks.{OnlyLooks}
use Rattle.load_run.specs.Load.{Load}
use Rattle.hk_runs.specs.Pipe.{Pipes}
use Rattle.hk_runs.specs.Replay.{Replays}
use Rattle.server_command.specs.Serve.{ServerEnvironment, ServesConns, ServesNone, generated, server_environment}
use Rattle.hkms_commands.specs.Orders.{Obeys}
use Rattle.hkms_commands.specs.ServerHeadline.{ServerKeepsFiles}

-- all but the output is unchanged; `same_clock` says that the clock is
abbrev pub WritesAlone : {D A S K W : Type 0} → Environment D A S K W → Environment D A S K W → Type 0 → Type 0
WritesAlone old new same_clock = (new.disk ≡ old.disk) × (new.acls ≡ old.acls) × (new.input ≡ old.input) × (new.rand ≡ old.rand) × same_clock

module _ {D A S K W : Type 0} (of_out : sinks.Ghosts K) (old new : Environment D A S K W) (same_clock : Type 0) where
  -- there is no memory to read the words
  abbrev pub LacksMemory : ℕ → Type 0
  LacksMemory status = WantsMemory (WritesAlone old new same_clock) (of_out.written old.out) (of_out.written new.out) status

  -- the words are refused, or there is no memory to read them
  abbrev pub RefusesWords : ℕ → Type 0
  RefusesWords status = RefusesUsage (WritesAlone old new same_clock) (of_out.written old.out) (of_out.written new.out) status ⊎ LacksMemory status

  -- a text is shown, or there is no memory to read the words
  abbrev pub ShowsOwnText : ℕ → Type 0
  ShowsOwnText status = ShowsText (WritesAlone old new same_clock) (of_out.written old.out) (of_out.written new.out) status ⊎ LacksMemory status

  -- a load of so many steps, which uses the output and the random words alone
  abbrev pub LoadsAlone : random.Ghosts W → ℕ → ℕ → Type 0
  LoadsAlone of_rand count status =
      Load of_rand.to_come count old.rand new.rand (of_out.written old.out) (of_out.written new.out) status
      × ((new.disk ≡ old.disk) × (new.acls ≡ old.acls) × (new.input ≡ old.input) × same_clock)

  -- such a load, or there is no memory to read the words
  abbrev pub LoadsSteps : random.Ghosts W → ℕ → ℕ → Type 0
  LoadsSteps of_rand count status = LoadsAlone of_rand count status ⊎ LacksMemory status

  -- a check, which only reads the disk, and uses nothing else but the output
  abbrev pub ChecksAlone : disks.Ghosts D → ℕ → Type 0
  ChecksAlone of_disk status =
      Checks (of_out.written old.out) (of_out.written new.out) status (of_disk.state old.disk) (of_disk.state new.disk) × OnlyLooks (of_disk.state old.disk) (of_disk.state new.disk)
      × ((new.acls ≡ old.acls) × (new.input ≡ old.input) × (new.rand ≡ old.rand) × same_clock)

  -- such a check, or there is no memory to read the words
  abbrev pub ChecksLogs : disks.Ghosts D → ℕ → Type 0
  ChecksLogs of_disk status = ChecksAlone of_disk status ⊎ LacksMemory status

module _ {D A S K W : Type 0} (of_disk : disks.Ghosts D) (of_acls : sources.Ghosts A) (of_input : sources.Ghosts S) (of_out : sinks.Ghosts K) (of_rand : random.Ghosts W) (old new : Environment D A S K W) where
  -- a replay, which has read its input to the end if the status is 0
  abbrev pub ReplaysToEnd : ℕ → Type 0
  ReplaysToEnd status =
      (how : ReplayEnd) × (status ≡ status_of how) × Replays of_disk of_acls of_input of_out of_rand old new how × (status ≡ 0 → IsAtEnd (of_input.left new.input))

  -- such a replay, or there is no memory to read the words
  abbrev pub ReplaysLines : Type 0 → ℕ → Type 0
  ReplaysLines same_clock status = ReplaysToEnd status ⊎ LacksMemory of_out old new same_clock status

  -- a connection, or there is no memory to read the words
  abbrev pub PipesRequests : Type 0 → ℕ → Type 0
  PipesRequests same_clock status = Pipes of_disk of_acls of_input of_out of_rand old new same_clock status ⊎ LacksMemory of_out old new same_clock status

-- all that `hkms` works on
pub record CommandGiven (D A S K W C Y P : Type 0) : Type 0 where
  pub env : Environment D A S K W
  pub clock : C
  pub yard : Y
  pub door : P

abbrev pub given : {D A S K W C Y P : Type 0} → D → A → S → K → W → C → Y → P → CommandGiven D A S K W C Y P
given disk acls input out rand clock yard door = record { env = environment disk acls input out rand; clock = clock; yard = yard; door = door }

module _ {D A S K W C Y P : Type 0} where
  -- what the server works on of it
  abbrev pub server_side : CommandGiven D A S K W C Y P → ServerEnvironment A K W Y P
  server_side g = server_environment g.env.acls g.env.out g.env.rand g.yard g.door

  -- all but the output is unchanged, the yard and the door aside
  abbrev pub ReadsNothing : CommandGiven D A S K W C Y P → CommandGiven D A S K W C Y P → Type 0
  ReadsNothing old new = WritesAlone old.env new.env (new.clock ≡ old.clock)

module _ {D A S K W C Y O P I U H : Type 0} (of_acls : sources.Ghosts A) (of_out : sinks.Ghosts K) (of_rand : random.Ghosts W) (of_yard : yards.Ghosts Y O) (of_own : disks.Ghosts O) (of_door : doors.Ghosts P I U H)
    (of_in : sources.Ghosts I) (of_outs : sinks.Ghosts U) (old new : CommandGiven D A S K W C Y P) where
  -- connections are served, and the disk and the input are not used
  abbrev pub ServesAlone : ℕ → ℕ → ℕ → Type 0
  ServesAlone port conns status =
      ServesConns of_acls of_out of_rand of_yard of_own of_door of_in of_outs (server_side old) (server_side new) port conns status
      × ((new.env.disk ≡ old.env.disk) × (new.env.input ≡ old.env.input))

  -- if the words name a server, connections are served, or there is no memory to read the words
  abbrev pub ServesByWords : List Text → ℕ → Type 0
  ServesByWords words status =
      (port conns places : ℕ) → Names (Serve port conns places) words → ServesAlone port conns status ⊎ LacksMemory of_out old.env new.env (new.clock ≡ old.clock) status

  -- if the words name a server, and it may start from the files of its yard, it keeps files
  abbrev pub KeepsByWords : List Text → ℕ → Type 0
  KeepsByWords words status =
      (port conns places : ℕ) → Names (Serve port conns places) words → IsTrue (of_yard.state old.yard).tells → (past : Past) → SoundFiles past (of_yard.state old.yard).reads
      → ServerKeepsFiles of_own.state generated (ServesEnds of_in.left of_in.faults of_outs.written of_outs.faults) (ReadsNothing old new × ((new.yard ≡ old.yard) × (new.door ≡ old.door)))
      (ServesNone (server_side old) (server_side new)) past port conns (of_acls.left old.env.acls) (of_acls.left new.env.acls) (of_rand.to_come old.env.rand)
      (of_yard.state old.yard) (of_yard.state new.yard) (of_door.state old.door) (of_door.state new.door) (of_out.written old.env.out) (of_out.written new.env.out) status

  -- what is done at an order
  abbrev pub CarriesOut : disks.Ghosts D → sources.Ghosts S → Result Order OrderFault → ℕ → Type 0
  CarriesOut of_disk of_input order status =
      Obeys order (ReplaysToEnd of_disk of_acls of_input of_out of_rand old.env new.env status) (Pipes of_disk of_acls of_input of_out of_rand old.env new.env (new.clock ≡ old.clock) status)
      (λ port conns. ServesAlone port conns status) (λ count. LoadsAlone of_out old.env new.env (new.clock ≡ old.clock) of_rand count status)
      (ChecksAlone of_out old.env new.env (new.clock ≡ old.clock) of_disk status)
      (ReadsNothing old new) (of_out.written old.env.out) (of_out.written new.env.out) status
