use Rattle.std.proofs.Common.{Err, ap}
use Rattle.world_run.specs.SnapPaths.{read_snap_path, snap_at}
use Rattle.world_run.proofs.PathCallLemmas.{is-read, not-read}
use Rattle.world_run.proofs.path_calls.snap.Goals as goal

pub returns-in-Err : goal.returns-in-Err
returns-in-Err c = not-read snap_at (read_snap_path c.args.path c.args.name) c.in-Err.fault (λ is. c.in-Err.ensures.bad.0 (ap Err is)) (λ none. cc (c.in-Err.ensures.bad.1 none))

pub returns : goal.returns
returns c = is-read snap_at (read_snap_path c.args.path c.args.name) c.in-Ok.at c.in-Ok.ensures.ok
