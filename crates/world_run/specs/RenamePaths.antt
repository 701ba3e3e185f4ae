-- The two paths of a rename, as an event gives them.
use Rattle.std.specs.Prelude.{ℕ, List, Option, Some, None}
use Rattle.name_calls.specs.Paths.{read_path}
use Rattle.name_calls.specs.declared.calls.NameCall.{NameCall}
use Rattle.name_calls.specs.declared.calls.NameCall.TheVariants as call
use Rattle.name_calls.specs.declared.paths.NPath.{NPath}
use Rattle.world_run.specs.declared.rename_paths.RenamePaths.{RenamePaths}

abbrev pub both_paths : Option NPath → Option NPath → Option RenamePaths
both_paths None to = None
both_paths (Some path) None = None
both_paths (Some path) (Some to) = Some (record { path = path; to = to })

-- both keep the rule of paths
abbrev pub read_rename_paths : List ℕ → List ℕ → Option RenamePaths
read_rename_paths path to = both_paths (read_path path) (read_path to)

abbrev pub rename_along : RenamePaths → NameCall
rename_along paths = call.Rename paths.path paths.to
