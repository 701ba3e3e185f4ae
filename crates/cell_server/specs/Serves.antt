-- What a server does from when its logs are open until they are closed.
use Rattle.std.specs.Prelude.{◌≡◌, ◌+◌, ◌⊎◌, ℕ, IsTrue, List, [], Some}
use Rattle.hk_base.specs.Disk.{DiskState}
use Rattle.hist_cell.specs.History.{LegalOf}
use Rattle.kms_cell.specs.Entries.{KmsKnown}
use Rattle.kms_cell.specs.Steps.{KmsSteps}
use Rattle.kms_cell.specs.Tickets.{KmsAllows}
use Rattle.kms_cell.specs.Views.{KmsView}
use Rattle.name_history.specs.Entries.{NameEntry, NameKnown}
use Rattle.server_parts.specs.Doors.{DoorState}
use Rattle.turns.specs.Entries.{NamesMake}
use Rattle.cell_server.specs.Connections.{Connections, Serving}
use Rattle.cell_workers.specs.Rounds.{IsLastRound}
use Rattle.cell_server.specs.declared.ends.ServeEnd.{ServeEnd}
use Rattle.cell_server.specs.declared.ends.ServeEnd.TheVariants as serve_end

-- As many connections were accepted and left as the server was told, and the entries after them are the last round.
pub record EndsWell {I O D W : Type 0} (door0 door : DoorState I O) (conns : ℕ) (made : List (NameEntry D W)) : Type 0 where
  pub accepted : door.accepted ≡ door0.accepted + conns
  pub left : door.left ≡ door0.left + conns
  pub round : IsLastRound made

-- The door listens on this port; or it could not be opened, and is as it was.
abbrev pub Listens : {I O : Type 0} → ℕ → DoorState I O → ServeEnd → DoorState I O → Type 0
Listens port door0 end door = (door.port ≡ Some port) ⊎ ((end ≡ serve_end.DoorFault) × (door ≡ door0))

-- A server served connections, with fillers that drew from these words. When all were left its passes knew the first part of both histories,
-- with every entry that served a connection and every one of the workers. After that its pass of the keys made no entry, and its pass of the
-- namesystem made these entries and no others: none if the server ended as the door took no more connections.
pub record ServesAll {I O D W : Type 0} (serves : Serving I O D W) (first second : ℕ → ℕ) (state : D → DiskState) (to_come : W → ℕ → ℕ)
    (door0 : DoorState I O) (keys0 : KmsKnown D W) (names0 : NameKnown D W) (port conns : ℕ) (end : ServeEnd) (door : DoorState I O) (keys : KmsKnown D W) (names : NameKnown D W) : Type 0 where
  pub listens : Listens port door0 end door
  pub names_then : NameKnown D W
  pub connections : Connections serves first second door0 keys0 names0 door keys names_then
  pub legal : LegalOf (KmsSteps {D = D} {W = W} state to_come) (KmsAllows {S = KmsView D W}) keys.start keys.seen
  pub made : List (NameEntry D W)
  pub makes : NamesMake state to_come names_then made names
  pub ends_well : end ≡ serve_end.Served → EndsWell door0 door conns made
  pub closed : end ≡ serve_end.Closed → IsTrue door.closed
  pub no_round : end ≡ serve_end.Closed → made ≡ []

-- The same, at whichever port the door listens on.
abbrev pub ServesOpened : {I O D W : Type 0} → Serving I O D W → (ℕ → ℕ) → (ℕ → ℕ) → (D → DiskState) → (W → ℕ → ℕ) → DoorState I O → KmsKnown D W → NameKnown D W → ℕ → ServeEnd → DoorState I O → KmsKnown D W → NameKnown D W → Type 0
ServesOpened serves first second state to_come door0 keys0 names0 conns end door keys names =
    (port : ℕ) → door0.port ≡ Some port → ServesAll serves first second state to_come door0 keys0 names0 port conns end door keys names
