use Rattle.std.proofs.Common.{ap}
use Rattle.name_core.specs.State.{NameService}
use Rattle.name_core.specs.Updates.{deliver_deed}
use Rattle.name_core.proofs.LoggingLemmas.{stands-on}
use Rattle.name_core.proofs.UpdateCalls.{update-behind, update-unsettled}
use Rattle.name_core.proofs.namesystem.Name.deliver.Goals as goal

pub returns-in-Err : goal.returns-in-Err
returns-in-Err g c =
    update-unsettled (g.D.Disk.state c.args.disk.now) (g.D.Disk.state c.settle.new.disk) c.args.self.now c.settle.new.self (deliver_deed c.args.reply.now) c.in-Err.ensures

pub returns-in-Ok : goal.returns-in-Ok
returns-in-Ok g c =
    update-behind (g.D.Disk.state c.args.disk.now) (g.D.Disk.state c.settle.new.disk) (g.D.Disk.state c.deliver_settled.new.disk) c.args.self.now c.settle.new.self c.deliver_settled.new.self
    (deliver_deed c.args.reply.now) c.deliver_settled.result c.in-Ok.ensures c.deliver_settled.ensures

pub deliver_settled-requires-clause-settled : goal.deliver_settled-requires-clause-settled
deliver_settled-requires-clause-settled g c = ap (λ (x : NameService). x.pending) c.in-Ok.ensures.service

pub deliver_settled-requires-clause-stands : goal.deliver_settled-requires-clause-stands
deliver_settled-requires-clause-stands g c =
    stands-on (g.D.Disk.state c.args.disk.now) (g.D.Disk.state c.settle.new.disk) c.args.self.now c.settle.new.self _ _ c.in-Ok.ensures.disk c.requires.stands
