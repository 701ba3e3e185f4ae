use Rattle.std.proofs.Common.{refl}
use Rattle.kms_calls.specs.declared.calls.KmsCall.TheVariants.{Delete}
use Rattle.kms_core.proofs.ServiceLemmas.{acts_settled, acts_unsettled}
use Rattle.kms_core.proofs.service.Service.delete.Goals as goal

pub returns-in-Err : goal.returns-in-Err
returns-in-Err g c = λ words now.
    acts_unsettled (g.D.Disk.state c.args.disk.now) (g.D.Disk.state c.settle.new.disk) c.args.self.now c.settle.new.self words now (Delete c.args.name) refl c.in-Err.ensures

pub returns-in-Ok : goal.returns-in-Ok
returns-in-Ok g c = λ words now.
    acts_settled (g.D.Disk.state c.args.disk.now) (g.D.Disk.state c.settle.new.disk) (g.D.Disk.state c.delete_settled.new.disk) c.args.self.now c.settle.new.self c.delete_settled.new.self
    words now (Delete c.args.name) c.delete_settled.result words refl c.in-Ok.ensures (c.delete_settled.ensures words now)
