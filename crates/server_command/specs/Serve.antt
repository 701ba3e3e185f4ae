-- The server.
use Rattle.std.specs.Prelude.{◌≡◌, ◌⊎◌, ◌+◌, ◌%◌, ◌^◌, ℕ, List, [], ◌∷◌, codes, Option}
use Rattle.hk_base.specs.Disk.{DiskState}
use Rattle.hk_base.specs.declared.disk.Disk as disks
use Rattle.hk_base.specs.declared.outside.Source as sources
use Rattle.hk_base.specs.declared.outside.Sink as sinks
use Rattle.hk_base.specs.declared.outside.Words as random
use Rattle.server_parts.specs.declared.door.Door as doors
use Rattle.server_parts.specs.declared.yard.Yard as yards
use Rattle.prop_text.specs.declared.props.Props.{Props}
use Rattle.rand_chacha.specs.ChaCha.{ChaCha, word_at}
use Rattle.server_parts.specs.Doors.{DoorState}
use Rattle.server_parts.specs.Yards.{YardState}
use Rattle.cell_server.specs.Connections.{ServesEnds, Serving}
use Rattle.server_run.specs.Runs.{EndsAs}
use Rattle.server_run.specs.declared.run.RunEnd.{RunEnd}
use Rattle.server_run.specs.declared.run.RunEnd.TheVariants as run_end
use Rattle.command_io.specs.declared.props.PropsFault.{PropsFault}
use Rattle.command_io.specs.declared.ends.ReplayEnd.TheVariants as replay_end
use Rattle.command_io.specs.Ends.{Reports, ShowsWith, ended_by, ended_by_props}
use Rattle.command_io.specs.Properties.{HasPropsFault, ReadsProperties}

-- the generator that has the next eight words as its seed
abbrev pub generator_of : (ℕ → ℕ) → ChaCha
generator_of words = record { key = words 0 ∷ words 1 ∷ words 2 ∷ words 3 ∷ words 4 ∷ words 5 ∷ words 6 ∷ words 7 ∷ []; stream = 0; word_pos = 0 }

-- the words after the first n
abbrev pub words_after : ℕ → (ℕ → ℕ) → ℕ → ℕ
words_after n words k = words (k + n)

-- the words that a generator has to come
abbrev pub generated : ChaCha → ℕ → ℕ
generated g k = word_at 10 g.key g.stream ((g.word_pos + k) % 2 ^ 68)

-- what is written when the server has ended, and the status
abbrev pub ReportsRun : RunEnd → Option (List ℕ) → Option (List ℕ) → ℕ → Type 0
ReportsRun run_end.Served written now status = (status ≡ 0) × (now ≡ written)
ReportsRun run_end.Closed written now status = (status ≡ 0) × (now ≡ written)
ReportsRun run_end.DoorFault written now status = ShowsWith (codes "door fault\n") 9 written now status
ReportsRun run_end.StoreFault written now status = Reports replay_end.StoreFault written now status
ReportsRun run_end.NoMemory written now status = Reports replay_end.NoMemory written now status
ReportsRun (run_end.NotOpened file fault) written now status = Reports (ended_by file fault) written now status

-- The properties could not be read, and nothing else was done: `same` says that all else is as it was.
pub record RefusesToServe (same : Type 0) (acls written now : Option (List ℕ)) (status : ℕ) : Type 0 where
  pub fault : PropsFault
  pub has_fault : HasPropsFault acls fault
  pub untouched : same
  pub reports : Reports (ended_by_props fault) written now status

module _ {D I O : Type 0} (state : D → DiskState) (to_come : ChaCha → ℕ → ℕ) (serves : Serving I O D ChaCha) where
  -- The server ran under these properties, and ended so. The key management service and the two fillers drew from a generator each, whose seeds
  -- are eight words each, in this order.
  abbrev pub RunsUnder : Props → ℕ → ℕ → (ℕ → ℕ) → YardState → YardState → DoorState I O → DoorState I O → RunEnd → Type 0
  RunsUnder props port conns words yard yard' door door' end =
      EndsAs state to_come serves (to_come (generator_of (words_after 8 words))) (to_come (generator_of (words_after 16 words))) props (generator_of words) port conns yard yard' door door' end

  -- The properties were read, and the server ran under them. It drew 24 words.
  pub record ServesUnder (port conns : ℕ) (acls acls' : Option (List ℕ)) (words words' : ℕ → ℕ) (yard yard' : YardState) (door door' : DoorState I O) (written now : Option (List ℕ)) (status : ℕ) : Type 0 where
    pub props : Props
    pub read : ReadsProperties acls acls' props
    pub end : RunEnd
    pub ends : RunsUnder props port conns words yard yard' door door' end
    pub rest : (k : ℕ) → words' k ≡ words_after 24 words k
    pub reports : ReportsRun end written now status

  -- The properties were read first, then both logs were opened, and then connections were served. `same` says that the yard, the door and the
  -- random words are as they were.
  abbrev pub Serves : Type 0 → ℕ → ℕ → Option (List ℕ) → Option (List ℕ) → (ℕ → ℕ) → (ℕ → ℕ) → YardState → YardState → DoorState I O → DoorState I O → Option (List ℕ) → Option (List ℕ) → ℕ → Type 0
  Serves same port conns acls acls' words words' yard yard' door door' written now status =
      RefusesToServe same acls written now status ⊎ ServesUnder port conns acls acls' words words' yard yard' door door' written now status

-- what a server works on: the properties, the output, the source of random words, the yard and the door
pub record ServerEnvironment (A K W Y P : Type 0) : Type 0 where
  pub acls : A
  pub out : K
  pub rand : W
  pub yard : Y
  pub door : P

abbrev pub server_environment : {A K W Y P : Type 0} → A → K → W → Y → P → ServerEnvironment A K W Y P
server_environment acls out rand yard door = record { acls = acls; out = out; rand = rand; yard = yard; door = door }

-- the yard, the door and the random words are as they were
abbrev pub ServesNone : {A K W Y P : Type 0} → ServerEnvironment A K W Y P → ServerEnvironment A K W Y P → Type 0
ServesNone old new = (new.yard ≡ old.yard) × (new.door ≡ old.door) × (new.rand ≡ old.rand)

module _ {A K W Y O P I U H : Type 0} (of_acls : sources.Ghosts A) (of_out : sinks.Ghosts K) (of_rand : random.Ghosts W) (of_yard : yards.Ghosts Y O) (of_own : disks.Ghosts O) (of_door : doors.Ghosts P I U H)
    (of_in : sources.Ghosts I) (of_outs : sinks.Ghosts U) (old new : ServerEnvironment A K W Y P) where
  -- the same over what a server works on
  abbrev pub ServesConns : ℕ → ℕ → ℕ → Type 0
  ServesConns port conns status =
      Serves of_own.state generated (ServesEnds of_in.left of_in.faults of_outs.written of_outs.faults) (ServesNone old new) port conns (of_acls.left old.acls) (of_acls.left new.acls)
      (of_rand.to_come old.rand) (of_rand.to_come new.rand) (of_yard.state old.yard) (of_yard.state new.yard) (of_door.state old.door) (of_door.state new.door)
      (of_out.written old.out) (of_out.written new.out) status
