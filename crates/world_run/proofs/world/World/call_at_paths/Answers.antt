use Rattle.std.proofs.Common.{refl, subst}
use Rattle.std.specs.Prelude.{Result}
use Rattle.name_calls.specs.declared.calls.NameCall.{NameCall}
use Rattle.name_calls.specs.declared.paths.PathFault.{PathFault}
use Rattle.world_run.specs.PathCalls.{ReadsCall}
use Rattle.world_run.proofs.PathCallLemmas.{call-made, call-unread}
use Rattle.world_run.proofs.world.World.call_at_paths.Goals as goal

pub returns-in-Err : goal.returns-in-Err
returns-in-Err g c lines words now =
    call-unread lines (g.D.Disk.state c.args.disk.now) c.args.self.now c.args.self.now words now c.args.event c.read_path_call-user.result.0 c.in-Err.fault c.unread.result
    (subst (λ (read : Result NameCall PathFault). ReadsCall c.args.event c.read_path_call-user.result.0 read) c.in-Err.is c.read_path_call-user.ensures) refl c.unread.ensures

pub returns-in-Ok : goal.returns-in-Ok
returns-in-Ok g c lines words now =
    call-made lines (g.D.Disk.state c.args.disk.now) (g.D.Disk.state c.call-line.new.disk) c.args.self.now c.call-line.new.self words now c.args.event c.read_path_call-user.result.0 c.in-Ok.call c.call-line.result
    (subst (λ (read : Result NameCall PathFault). ReadsCall c.args.event c.read_path_call-user.result.0 read) c.in-Ok.is c.read_path_call-user.ensures) c.call-line.ensures
