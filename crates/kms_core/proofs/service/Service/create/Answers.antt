use Rattle.std.proofs.Common.{refl}
use Rattle.kms_calls.specs.declared.calls.KmsCall.TheVariants.{Create}
use Rattle.kms_core.proofs.ServiceLemmas.{acts_settled, acts_unsettled}
use Rattle.kms_core.proofs.service.Service.create.Goals as goal

pub returns-in-Err : goal.returns-in-Err
returns-in-Err g c =
    acts_unsettled (g.D.Disk.state c.args.disk.now) (g.D.Disk.state c.settle.new.disk) c.args.self.now c.settle.new.self (g.W.Words.to_come c.args.words.now) c.args.now (Create c.args.name c.args.bits c.args.material c.args.description) refl c.in-Err.ensures

pub returns-in-Ok : goal.returns-in-Ok
returns-in-Ok g c =
    acts_settled (g.D.Disk.state c.args.disk.now) (g.D.Disk.state c.settle.new.disk) (g.D.Disk.state c.create_settled.new.disk) c.args.self.now c.settle.new.self c.create_settled.new.self
    (g.W.Words.to_come c.args.words.now) c.args.now (Create c.args.name c.args.bits c.args.material c.args.description) c.create_settled.result (g.W.Words.to_come c.create_settled.new.words) refl c.in-Ok.ensures c.create_settled.ensures
