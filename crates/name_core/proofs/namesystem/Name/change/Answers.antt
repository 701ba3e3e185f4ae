use Rattle.std.proofs.Common.{ap}
use Rattle.name_core.specs.State.{NameService}
use Rattle.name_core.proofs.LoggingLemmas.{stands-on}
use Rattle.name_core.proofs.CallLemmas.{acts-settled, acts-unsettled}
use Rattle.name_core.proofs.namesystem.Name.change.Goals as goal

pub returns-in-Err : goal.returns-in-Err
returns-in-Err g c = acts-unsettled (g.D.Disk.state c.args.disk.now) (g.D.Disk.state c.settle.new.disk) c.args.self.now c.settle.new.self c.args.call c.in-Err.ensures

pub returns-in-Ok : goal.returns-in-Ok
returns-in-Ok g c =
    acts-settled (g.D.Disk.state c.args.disk.now) (g.D.Disk.state c.settle.new.disk) (g.D.Disk.state c.change_settled.new.disk) c.args.self.now c.settle.new.self c.change_settled.new.self
    c.args.call c.change_settled.result c.in-Ok.ensures c.change_settled.ensures

pub change_settled-requires-clause-settled : goal.change_settled-requires-clause-settled
change_settled-requires-clause-settled g c = ap (λ (x : NameService). x.pending) c.in-Ok.ensures.service

pub change_settled-requires-clause-stands : goal.change_settled-requires-clause-stands
change_settled-requires-clause-stands g c =
    stands-on (g.D.Disk.state c.args.disk.now) (g.D.Disk.state c.settle.new.disk) c.args.self.now c.settle.new.self _ _ c.in-Ok.ensures.disk c.requires.stands
