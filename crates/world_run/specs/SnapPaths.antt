-- The path of a directory with the name of one of its snapshots, as an event gives them.
use Rattle.std.specs.Prelude.{ℕ, List, Option, Some, None, if◌then◌else◌}
use Rattle.name_calls.specs.Paths.{is_component, read_path}
use Rattle.name_calls.specs.declared.calls.NameCall.{NameCall}
use Rattle.name_calls.specs.declared.calls.NameCall.TheVariants as call
use Rattle.name_calls.specs.declared.paths.NPath.{NPath}
use Rattle.world_run.specs.declared.snap_path.SnapPath.{SnapPath}

abbrev pub with_name : List ℕ → Option NPath → Option SnapPath
with_name name None = None
with_name name (Some path) = if is_component name then Some (record { path = path; name = name }) else None

-- the path keeps the rule of paths, and the name can be a name of a path
abbrev pub read_snap_path : List ℕ → List ℕ → Option SnapPath
read_snap_path path name = with_name name (read_path path)

abbrev pub snap_at : SnapPath → NameCall
snap_at at = call.Snap at.path at.name

abbrev pub unsnap_at : SnapPath → NameCall
unsnap_at at = call.Unsnap at.path at.name
