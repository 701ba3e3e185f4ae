use Rattle.std.proofs.Common.{◌∙◌, ap, is_some}
use Rattle.name_core.specs.State.{NameService}
use Rattle.name_core.specs.Asks.{open_ask}
use Rattle.name_core.proofs.CallLemmas.{finish-concluded, finish-failed}
use Rattle.name_core.proofs.LoggingLemmas.{stands-on}
use Rattle.name_core.proofs.namesystem.Name.conclude.Goals as goal

pub returns-in-Err : goal.returns-in-Err
returns-in-Err g c =
    finish-failed (g.D.Disk.state c.args.disk.now) (g.D.Disk.state c.settle.new.disk) c.args.self.now c.settle.new.self c.close.new.self c.args.id c.args.edek c.requires.asked c.in-Err.ensures c.close.ensures

pub conclude_settled-requires-clause-asked : goal.conclude_settled-requires-clause-asked
conclude_settled-requires-clause-asked g c =
    ap (λ (s : NameService). is_some (open_ask s.names.asks c.args.id)) c.in-Ok.ensures.service ∙ c.requires.asked

pub conclude_settled-requires-clause-settled : goal.conclude_settled-requires-clause-settled
conclude_settled-requires-clause-settled g c = ap (λ (s : NameService). s.pending) c.in-Ok.ensures.service

pub conclude_settled-requires-clause-stands : goal.conclude_settled-requires-clause-stands
conclude_settled-requires-clause-stands g c =
    stands-on (g.D.Disk.state c.args.disk.now) (g.D.Disk.state c.settle.new.disk) c.args.self.now c.settle.new.self _ _ c.in-Ok.ensures.disk c.requires.stands

pub returns-in-Ok : goal.returns-in-Ok
returns-in-Ok g c =
    finish-concluded (g.D.Disk.state c.args.disk.now) (g.D.Disk.state c.settle.new.disk) (g.D.Disk.state c.conclude_settled.new.disk) c.args.self.now c.settle.new.self c.conclude_settled.new.self
    c.args.id c.args.edek c.conclude_settled.result c.requires.asked c.in-Ok.ensures c.conclude_settled.ensures
