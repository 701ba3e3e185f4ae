-- The worlds that the histories of both services lead to.
use Rattle.kms_core.specs.State.{ServiceState, service_of}
use Rattle.kms_core.specs.Users.{running}
use Rattle.kms_cell.specs.Views.{KmsView}
use Rattle.name_core.specs.State.{NameService}
use Rattle.world_run.specs.World.{Kept, WorldState}

-- the state of the keys
abbrev pub keys_of_view : {D W : Type 0} → KmsView D W → ServiceState
keys_of_view v = service_of (running v.kms)

-- the world of both services, with these kept values
abbrev pub world_with : ServiceState → NameService → Kept → WorldState
world_with keys names kept = record { keys = keys; names = names; kept = kept }
