use Rattle.std.proofs.Common.{◌∙◌, ap, sym}
use Rattle.name_core.specs.State.{NameService}
use Rattle.name_core.proofs.LoggingLemmas.{stands-on}
use Rattle.name_core.proofs.WalkCalls.{walk-behind, walk-early, walk-unsettled}
use Rattle.name_core.proofs.namesystem.Name.walk.Goals as goal

pub returns-in-Some : goal.returns-in-Some
returns-in-Some g c = walk-early (g.D.Disk.state c.args.disk.now) c.args.self.now c.args.zone.now c.in-Some.why (sym c.path_refusal.ensures ∙ c.in-Some.is)

pub returns-in-Err : goal.returns-in-Err
returns-in-Err g c =
    walk-unsettled (g.D.Disk.state c.args.disk.now) (g.D.Disk.state c.settle.new.disk) c.args.self.now c.settle.new.self c.args.zone.now (sym c.path_refusal.ensures ∙ c.in_default.is) c.in-Err.ensures

pub returns-in-Ok : goal.returns-in-Ok
returns-in-Ok g c =
    walk-behind (g.D.Disk.state c.args.disk.now) (g.D.Disk.state c.settle.new.disk) (g.D.Disk.state c.walk_settled.new.disk) c.args.self.now c.settle.new.self c.walk_settled.new.self
    c.args.zone.now c.walk_settled.result (sym c.path_refusal.ensures ∙ c.in_default.is) c.in-Ok.ensures c.walk_settled.ensures

pub walk_settled-requires-clause-settled : goal.walk_settled-requires-clause-settled
walk_settled-requires-clause-settled g c = ap (λ (x : NameService). x.pending) c.in-Ok.ensures.service

pub walk_settled-requires-clause-stands : goal.walk_settled-requires-clause-stands
walk_settled-requires-clause-stands g c =
    stands-on (g.D.Disk.state c.args.disk.now) (g.D.Disk.state c.settle.new.disk) c.args.self.now c.settle.new.self _ _ c.in-Ok.ensures.disk c.requires.stands
