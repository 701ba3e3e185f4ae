use Rattle.std.proofs.Common.{ap}
use Rattle.world_run.specs.PathCalls.{path_call}
use Rattle.world_run.proofs.path_calls.read_path_call.Goals as goal

pub returns-in-Mkdir : goal.returns-in-Mkdir
returns-in-Mkdir c = (_, ap path_call c.in-Mkdir.is, c.mkdir.ensures)

pub returns-in-Delete : goal.returns-in-Delete
returns-in-Delete c = (_, ap path_call c.in-Delete.is, c.delete.ensures)

pub returns-in-Rename : goal.returns-in-Rename
returns-in-Rename c = (_, ap path_call c.in-Rename.is, c.rename.ensures)

pub returns-in-Info : goal.returns-in-Info
returns-in-Info c = (_, ap path_call c.in-Info.is, c.info.ensures)

pub returns-in-List : goal.returns-in-List
returns-in-List c = (_, ap path_call c.in-List.is, c.list.ensures)

pub returns-in-Allow : goal.returns-in-Allow
returns-in-Allow c = (_, ap path_call c.in-Allow.is, c.allow.ensures)

pub returns-in-Disallow : goal.returns-in-Disallow
returns-in-Disallow c = (_, ap path_call c.in-Disallow.is, c.disallow.ensures)

pub returns-in-Snap : goal.returns-in-Snap
returns-in-Snap c = (_, ap path_call c.in-Snap.is, c.snap.ensures)

pub returns-in-Unsnap : goal.returns-in-Unsnap
returns-in-Unsnap c = (_, ap path_call c.in-Unsnap.is, c.unsnap.ensures)

pub returns-in-Cancel : goal.returns-in-Cancel
returns-in-Cancel c = (_, ap path_call c.in-Cancel.is, c.cancel.ensures)

pub returns-in-Status : goal.returns-in-Status
returns-in-Status c = (_, ap path_call c.in-Status.is, c.status.ensures)
