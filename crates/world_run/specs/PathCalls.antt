-- The calls of the namesystem whose paths and names an event gives by their bytes.
use Rattle.std.specs.Prelude.{◌≡◌, ◌⊎◌, Option, None, Some, Result, Ok, Err}
use Rattle.std.specs.Option.{option_map}
use Rattle.hk_base.specs.declared.texts.Text.{Text}
use Rattle.name_calls.specs.declared.calls.NameCall.{NameCall}
use Rattle.name_calls.specs.declared.calls.NameCall.TheVariants as call
use Rattle.name_calls.specs.declared.paths.PathFault.{PathFault}
use Rattle.name_calls.specs.declared.paths.PathFault.TheVariants.{BadPath, NoMemory}
use Rattle.name_calls.specs.Paths.{read_path}
use Rattle.name_calls.specs.ReadPaths.{read_any_path}
use Rattle.hk_events.specs.declared.event.Event.{Event}
use Rattle.hk_events.specs.declared.event.Event.TheVariants as event
use Rattle.world_run.specs.RenamePaths.{read_rename_paths, rename_along}
use Rattle.world_run.specs.SnapPaths.{read_snap_path, snap_at, unsnap_at}
use Rattle.world_run.specs.Step.{delete_with}

-- The user of an event that makes such a call, and the call, if its paths and names keep their rules.
abbrev pub path_call : Event → Option (Text × Option NameCall)
path_call (event.Mkdir user path) = Some (user, option_map call.Mkdir (read_path path))
path_call (event.Delete user path recursive) = Some (user, option_map (delete_with recursive) (read_path path))
path_call (event.Rename user path to) = Some (user, option_map rename_along (read_rename_paths path to))
path_call (event.Info user path) = Some (user, option_map call.Info (read_any_path path))
path_call (event.List user path) = Some (user, option_map call.List (read_any_path path))
path_call (event.Allow user path) = Some (user, option_map call.Allow (read_path path))
path_call (event.Disallow user path) = Some (user, option_map call.Disallow (read_path path))
path_call (event.Snap user path name) = Some (user, option_map snap_at (read_snap_path path name))
path_call (event.Unsnap user path name) = Some (user, option_map unsnap_at (read_snap_path path name))
path_call (event.Cancel user path) = Some (user, option_map call.Cancel (read_path path))
path_call (event.Status user path) = Some (user, option_map call.Status (read_path path))
path_call _ = None

-- A reading gives the call, or tells that there is none; there may be no memory for it.
abbrev pub IsPathCallRead : Option NameCall → Result NameCall PathFault → Type 0
IsPathCallRead None result = result ≡ Err BadPath
IsPathCallRead (Some made) result = (result ≡ Ok made) ⊎ (result ≡ Err NoMemory)

-- what a reading of an event gives: its user, and what is read of its call
abbrev pub ReadsCall : Event → Text → Result NameCall PathFault → Type 0
ReadsCall e user result = (read : Option NameCall) × (path_call e ≡ Some (user, read)) × IsPathCallRead read result
