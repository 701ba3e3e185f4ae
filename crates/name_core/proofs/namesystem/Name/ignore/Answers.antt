use Rattle.std.proofs.Common.{ap, refl}
use Rattle.name_core.specs.State.{NameService}
use Rattle.name_core.specs.Updates.{ignore_deed}
use Rattle.name_core.proofs.UpdateCalls.{update-behind, update-ignored, update-unsettled}
use Rattle.name_core.proofs.namesystem.Name.ignore.Goals as goal

pub returns-in-Err : goal.returns-in-Err
returns-in-Err g c =
    update-unsettled (g.D.Disk.state c.args.disk.now) (g.D.Disk.state c.settle.new.disk) c.args.self.now c.settle.new.self (ignore_deed c.args.note.now) c.in-Err.ensures

pub returns-in-Ok : goal.returns-in-Ok
returns-in-Ok g c =
    update-behind (g.D.Disk.state c.args.disk.now) (g.D.Disk.state c.settle.new.disk) (g.D.Disk.state c.settle.new.disk) c.args.self.now c.settle.new.self c.settle.new.self
    (ignore_deed c.args.note.now) _ c.in-Ok.ensures
    (update-ignored (g.D.Disk.state c.settle.new.disk) c.settle.new.self (ignore_deed c.args.note.now) c.args.note.now c.ignored.result (ap (λ (x : NameService). x.pending) c.in-Ok.ensures.service) refl c.ignored.ensures)
