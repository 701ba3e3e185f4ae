-- Doors over TCP, and in memory.
use Rattle.std.specs.Prelude.{ℕ, Bool, false, List, map, length, Option, None, Some}
use Rattle.std.specs.declared.snapshot.Snapshot.{Snapshot}
use Rattle.disk_kinds.specs.Fakes.{Supply, Collected}
use Rattle.door_kinds.specs.declared.mem_door.MemClient.{MemClient}
use Rattle.door_kinds.specs.declared.mem_door.MemLeft.{MemLeft}
use Rattle.door_kinds.specs.declared.mem_door.MemDoor.{MemDoor}
use Rattle.server_parts.specs.Doors.{DoorState, LeftConnection}

-- A door that promises only its port, how many connections there were, and whether it closed.
abbrev pub opaque_door : {I O : Type 0} → Option ℕ → ℕ → ℕ → Bool → DoorState I O
opaque_door port accepted left closed = record { port = port; accepted = accepted; left = left; came = None; gone = None; closed = closed }

-- A door that never closes, and promises its port and which connections there were.
abbrev pub known_door : {I O : Type 0} → Option ℕ → List (I × O) → List (LeftConnection I O) → DoorState I O
known_door port came gone = record { port = port; accepted = length came; left = length gone; came = Some came; gone = Some gone; closed = false }

-- a connection that was left at a door in memory
abbrev pub left_of : MemLeft → LeftConnection Supply Collected
left_of l = record { input = l.input; out = l.out; ended = l.ended }

abbrev pub came_of : Snapshot (Supply × Collected) → Supply × Collected
came_of s = s.value

abbrev pub mem_door_state : MemDoor → DoorState Supply Collected
mem_door_state d = known_door d.port (map came_of d.came.items) (map left_of d.gone.items)

-- what the clients that are still to come send
abbrev pub to_come : MemDoor → List (List ℕ)
to_come d = map (λ (c : MemClient). c.sends.items) d.clients.items

abbrev pub mem_door_faults : MemDoor → ℕ
mem_door_faults d = d.faults
