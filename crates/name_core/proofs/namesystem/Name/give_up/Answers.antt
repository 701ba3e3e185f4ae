use Rattle.std.proofs.Common.{ap}
use Rattle.name_core.specs.State.{NameService}
use Rattle.name_core.specs.Updates.{give_up_deed}
use Rattle.name_core.proofs.LoggingLemmas.{stands-on}
use Rattle.name_core.proofs.UpdateCalls.{update-behind, update-unsettled}
use Rattle.name_core.proofs.namesystem.Name.give_up.Goals as goal

pub returns-in-Err : goal.returns-in-Err
returns-in-Err g c =
    update-unsettled (g.D.Disk.state c.args.disk.now) (g.D.Disk.state c.settle.new.disk) c.args.self.now c.settle.new.self (give_up_deed c.args.note.now) c.in-Err.ensures

pub returns-in-Ok : goal.returns-in-Ok
returns-in-Ok g c =
    update-behind (g.D.Disk.state c.args.disk.now) (g.D.Disk.state c.settle.new.disk) (g.D.Disk.state c.give_up_settled.new.disk) c.args.self.now c.settle.new.self c.give_up_settled.new.self
    (give_up_deed c.args.note.now) c.give_up_settled.result c.in-Ok.ensures c.give_up_settled.ensures

pub give_up_settled-requires-clause-settled : goal.give_up_settled-requires-clause-settled
give_up_settled-requires-clause-settled g c = ap (λ (x : NameService). x.pending) c.in-Ok.ensures.service

pub give_up_settled-requires-clause-stands : goal.give_up_settled-requires-clause-stands
give_up_settled-requires-clause-stands g c =
    stands-on (g.D.Disk.state c.args.disk.now) (g.D.Disk.state c.settle.new.disk) c.args.self.now c.settle.new.self _ _ c.in-Ok.ensures.disk c.requires.stands
