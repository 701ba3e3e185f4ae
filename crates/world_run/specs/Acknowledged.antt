-- The acknowledged records of both logs, and what a disk holds of a running world.
use Rattle.std.specs.Prelude.{◌≡◌, ◌⊎◌, ◌≤◌, ℕ, Bool, false, List, [], ◌++◌, Option, Some, IfSome}
use Rattle.hk_base.specs.Disk.{DiskState, Image}
use Rattle.edit_ops.specs.declared.ops.EditOp.{EditOp}
use Rattle.key_rows.specs.declared.rows.KeyCommand.{KeyCommand}
use Rattle.kms_core.specs.State.{ServiceState, settled}
use Rattle.kms_store.specs.Store.{IsSoundLog, IsKeyStoreOf, settled_commands}
use Rattle.name_core.specs.State.{NameService, settled as settled_names, IsNamesystemOf}
use Rattle.name_store.specs.Table.{settled_ops}
use Rattle.name_store.specs.Store.{IsSoundLog as IsSoundNames}
use Rattle.world_run.specs.World.{RunningWorld, WorldState}

-- commands of the key log, and operations of the edit log
pub record Acknowledged : Type 0 where
  pub keys : List KeyCommand
  pub names : List EditOp

abbrev pub nothing_acknowledged : Acknowledged
nothing_acknowledged = record { keys = []; names = [] }

abbrev pub of_keys : List KeyCommand → Acknowledged
of_keys commands = record { keys = commands; names = [] }

abbrev pub of_names : List EditOp → Acknowledged
of_names ops = record { keys = []; names = ops }

-- these first, and then those
abbrev pub also : Acknowledged → Acknowledged → Acknowledged
also a b = record { keys = a.keys ++ b.keys; names = a.names ++ b.names }

-- the disk holds both logs of a running world, each of these acknowledged records
pub record HoldsLogs (disk : DiskState) (r : RunningWorld) (done : Acknowledged) : Type 0 where
  pub keys : IsKeyStoreOf disk r.keys.store done.keys
  pub names : IsNamesystemOf disk r.names done.names

-- What a crash may leave of the key log of a service: its acknowledged commands, none left out, then the pending one if it was
-- kept, and at most one more, which applies. That one is the pending command itself, or one of `own`, which says what is being written.
pub record KeysSurvive (s : ServiceState) (own : Bool → KeyCommand → Type 0) (commands : List KeyCommand) (bytes : List ℕ) : Type 0 where
  pub kept : Bool
  pub more : Option KeyCommand
  pub more_is : IfSome more (λ command. ((kept ≡ false) × (s.pending ≡ Some command)) ⊎ own kept command)
  pub log : IsSoundLog bytes (commands ++ settled_commands kept s.pending) more (settled kept s).table

-- and of the edit log of a namesystem
pub record NamesSurvive (s : NameService) (own : Bool → EditOp → Type 0) (ops : List EditOp) (bytes : List ℕ) : Type 0 where
  pub kept : Bool
  pub more : Option EditOp
  pub more_is : IfSome more (λ op. ((kept ≡ false) × (s.pending ≡ Some op)) ⊎ own kept op)
  pub used : List ℕ
  pub log : IsSoundNames bytes (ops ++ settled_ops kept s.pending) more (record { table = (settled_names kept s).table; used = used })

-- Both files are logs that a start takes, never damaged. `own_keys` and `own_names` say what is being written to each.
pub record Survives (w : WorldState) (done : Acknowledged) (own_keys : Bool → KeyCommand → Type 0) (own_names : Bool → EditOp → Type 0) (image : Image) : Type 0 where
  pub keys : KeysSurvive w.keys own_keys done.keys (image 0)
  pub names : NamesSurvive w.names own_names done.names (image 1)

-- a crash at any moment since the old one leaves an image that it might have left before, or one with P
pub record LeavesBoth (old new : DiskState) (P : Image → Type 0) : Type 0 where
  pub before : (t : ℕ) (c : Image) → t ≤ old.moment → new.left_since t c → old.left_since t c ⊎ P c

-- what stays true in calls on both files
pub record RunBoth (old new : DiskState) : Type 0 where
  pub tells : new.tells ≡ old.tells
  pub faults : old.faults ≤ new.faults
  pub later : old.moment ≤ new.moment
