-- How the serving of connections ends, at a door that listens.
use Rattle.std.specs.Prelude.{◌≡◌, ◌+◌, ℕ, IsTrue}
use Rattle.hk_base.specs.Faults.{Rose}
use Rattle.server_parts.specs.Doors.{DoorState}
use Rattle.server_parts.specs.declared.door.Door as doors
use Rattle.std.specs.Borrow.{MutBor}
use Rattle.kms_cell.specs.Entries.{KmsKnown}
use Rattle.name_history.specs.Entries.{NameKnown}
use Rattle.cell_server.specs.Connections.{Connections, Serving}
use Rattle.cell_server.specs.declared.ends.ServeEnd.{ServeEnd}
use Rattle.cell_server.specs.declared.ends.ServeEnd.TheVariants as serve_end

-- The door keeps its port. Each end has its cause, unless memory ran out: as many connections were accepted as the server was told, or the door
-- takes no more, or the door failed.
pub record EndsServing {I O : Type 0} (door0 : DoorState I O) (faults0 conns : ℕ) (end : ServeEnd) (door : DoorState I O) (faults : ℕ) : Type 0 where
  pub port : door.port ≡ door0.port
  pub accepted : end ≡ serve_end.Served → door.accepted ≡ door0.accepted + conns
  pub closed : end ≡ serve_end.Closed → IsTrue door.closed
  pub fault : end ≡ serve_end.DoorFault → Rose faults0 faults

-- Connections were served beside workers, by what is lent: the door and the first pass of each cell, which are given back.
abbrev pub ServedBeside : {A K N I O H D W : Type 0} → Serving I O D W → (ℕ → ℕ) → (ℕ → ℕ) → doors.Ghosts A I O H → (K → KmsKnown D W) → (N → NameKnown D W) → MutBor A → MutBor K → MutBor N → ℕ → MutBor A → MutBor K → MutBor N → ServeEnd → Type 0
ServedBeside serves first second of_door keys_seen names_seen door keys names conns door' keys' names' end =
    (door'.ghost_name ≡ door.ghost_name) × (keys'.ghost_name ≡ keys.ghost_name) × (names'.ghost_name ≡ names.ghost_name)
    × Connections serves first second (of_door.state door.now) (keys_seen keys.now) (names_seen names.now) (of_door.state door'.now) (keys_seen keys'.now) (names_seen names'.now)
    × EndsServing (of_door.state door.now) (of_door.faults door.now) conns end (of_door.state door'.now) (of_door.faults door'.now)
