-- The same of what a command works on, before and after it.
use Rattle.std.specs.Prelude.{◌≡◌, ℕ}
use Rattle.hk_base.specs.declared.disk.Disk as disks
use Rattle.hk_base.specs.declared.outside.Source as sources
use Rattle.hk_base.specs.declared.outside.Sink as sinks
use Rattle.hk_base.specs.declared.outside.Words as random
use Rattle.server_parts.specs.declared.door.Door as doors
use Rattle.server_parts.specs.declared.yard.Yard as yards
use Rattle.cell_server.specs.Connections.{ServesEnds}
use Rattle.server_command.specs.Serve.{generated}
use Rattle.command_laws.specs.Complete.{PipeIsComplete, ReplayIsComplete, ServeIsComplete}
use Rattle.command_laws.specs.Good.{FaultCounts}
use Rattle.command_laws.specs.declared.given.Given.{Given}

-- all but the output is unchanged, the door aside
abbrev pub OnlyOutputChanges : {D A S K W C P : Type 0} → Given D A S K W C P → Given D A S K W C P → Type 0
OnlyOutputChanges old new = (new.disk ≡ old.disk) × (new.acls ≡ old.acls) × (new.input ≡ old.input) × (new.rand ≡ old.rand) × (new.clock ≡ old.clock)

module _ {D A S K W C P I U H : Type 0} (of_disk : disks.Ghosts D) (of_acls : sources.Ghosts A) (of_input : sources.Ghosts S) (of_out : sinks.Ghosts K) (of_rand : random.Ghosts W) (of_door : doors.Ghosts P I U H) where
  -- the counts of faults, with this one of the disk or of the yard
  abbrev pub counts_of : Given D A S K W C P → ℕ → FaultCounts
  counts_of g store = record { acls = of_acls.faults g.acls; input = of_input.faults g.input; out = of_out.faults g.out; store = store; door = of_door.faults g.door }

  abbrev pub CompletesReplay : Given D A S K W C P → Given D A S K W C P → ℕ → Type 0
  CompletesReplay old new status =
      ReplayIsComplete (new.disk ≡ old.disk) ((new.input ≡ old.input) × (new.rand ≡ old.rand)) (OnlyOutputChanges old new) (of_disk.state old.disk) (of_disk.state new.disk)
      (of_acls.left old.acls) (of_acls.left new.acls) (of_rand.to_come old.rand) (of_rand.to_come new.rand) (of_input.left old.input) (of_input.left new.input)
      (of_out.written old.out) (of_out.written new.out) (counts_of old (of_disk.state old.disk).faults) (counts_of new (of_disk.state new.disk).faults) status

  abbrev pub CompletesPipe : Given D A S K W C P → Given D A S K W C P → ℕ → Type 0
  CompletesPipe old new status =
      PipeIsComplete (new.disk ≡ old.disk) ((new.input ≡ old.input) × (new.out ≡ old.out) × (new.rand ≡ old.rand) × (new.clock ≡ old.clock)) (OnlyOutputChanges old new)
      (of_disk.state old.disk) (of_disk.state new.disk) (of_acls.left old.acls) (of_acls.left new.acls) (of_rand.to_come old.rand) (of_rand.to_come new.rand)
      (of_input.left old.input) (of_input.left new.input) (of_out.written old.out) (of_out.written new.out)
      (counts_of old (of_disk.state old.disk).faults) (counts_of new (of_disk.state new.disk).faults) status

  -- a server over this yard, for so many connections at this port
  abbrev pub CompletesServe : {Y O : Type 0} → yards.Ghosts Y O → disks.Ghosts O → sources.Ghosts I → sinks.Ghosts U → Given D A S K W C P → Y → Given D A S K W C P → Y → ℕ → ℕ → ℕ → Type 0
  CompletesServe of_yard of_own of_in of_outs old yard new yard' port conns status =
      ServeIsComplete of_own.state generated (ServesEnds of_in.left of_in.faults of_outs.written of_outs.faults) ((yard' ≡ yard) × (new.door ≡ old.door) × (new.rand ≡ old.rand))
      ((new.disk ≡ old.disk) × (new.input ≡ old.input)) (OnlyOutputChanges old new) port conns (of_acls.left old.acls) (of_acls.left new.acls) (of_rand.to_come old.rand) (of_rand.to_come new.rand)
      (of_yard.state yard) (of_yard.state yard') (of_door.state old.door) (of_door.state new.door) (of_out.written old.out) (of_out.written new.out)
      (counts_of old (of_yard.state yard).faults) (counts_of new (of_yard.state yard').faults) status
