use Rattle.std.proofs.Common.{Err, ap}
use Rattle.world_run.specs.RenamePaths.{read_rename_paths, rename_along}
use Rattle.world_run.proofs.PathCallLemmas.{is-read, not-read}
use Rattle.world_run.proofs.path_calls.rename.Goals as goal

pub returns-in-Err : goal.returns-in-Err
returns-in-Err c = not-read rename_along (read_rename_paths c.args.path c.args.to) c.in-Err.fault (λ is. c.in-Err.ensures.bad.0 (ap Err is)) (λ none. cc (c.in-Err.ensures.bad.1 none))

pub returns : goal.returns
returns c = is-read rename_along (read_rename_paths c.args.path c.args.to) c.in-Ok.paths c.in-Ok.ensures.ok
