use Rattle.std.proofs.Common.{◌≡◌, ◌∙◌, None, ap, sym, subst}
use Rattle.name_core.specs.State.{IsNamesystemOf, RunningNames, names_of}
use Rattle.name_core.specs.Calls.{first_cause}
use Rattle.name_core.specs.Steps.{IsAtEnd, WalksSettled}
use Rattle.name_core.specs.Walks.{walk_causes}
use Rattle.name_core.proofs.WalkCalls.{walk-refused, walk-taken, walk-wanting}
use Rattle.name_core.proofs.namesystem.Name.walk_settled.Goals as goal

pub returns-in-Some : goal.returns-in-Some
returns-in-Some g c = walk-refused (g.D.Disk.state c.args.disk.now) c.args.self.now c.args.zone.now c.in-Some.why c.requires.settled (sym c.walk_refusal.ensures ∙ c.in-Some.is)

pub take_batch-requires : goal.take_batch-requires
take_batch-requires g c = sym c.walk_refusal.ensures ∙ c.in_default.is

pub returns-in-NoMemory : goal.returns-in-NoMemory
returns-in-NoMemory g c =
    walk-wanting (g.D.Disk.state c.args.disk.now) c.args.self.now c.take_batch.new.self c.args.zone.now c.requires.settled (sym c.walk_refusal.ensures ∙ c.in_default.is) c.in-NoMemory.ensures

pub returns-in-Batch : goal.returns-in-Batch
returns-in-Batch g c =
    walk-taken (g.D.Disk.state c.args.disk.now) c.args.self.now c.take_batch.new.self c.args.zone.now c.in-Batch.note c.requires.settled (sym c.walk_refusal.ensures ∙ c.in_default.is) c.in-Batch.ensures

pub end_walk-requires-clause-free : goal.end_walk-requires-clause-free
end_walk-requires-clause-free g c =
    subst (λ (x : RunningNames). first_cause (walk_causes (names_of x) c.args.zone.now) ≡ None) (sym c.in-NoneLeft.ensures.1) (sym c.walk_refusal.ensures ∙ c.in_default.is)

pub end_walk-requires-clause-end : goal.end_walk-requires-clause-end
end_walk-requires-clause-end g c = subst (λ (x : RunningNames). IsAtEnd (names_of x) c.args.zone.now) (sym c.in-NoneLeft.ensures.1) c.in-NoneLeft.ensures.0

pub end_walk-requires-clause-settled : goal.end_walk-requires-clause-settled
end_walk-requires-clause-settled g c = ap (λ (x : RunningNames). x.store.log.pending) c.in-NoneLeft.ensures.1 ∙ c.requires.settled

pub end_walk-requires-clause-stands : goal.end_walk-requires-clause-stands
end_walk-requires-clause-stands g c telling =
    let x = c.requires.stands telling in
    (x.0, subst (λ (r : RunningNames). IsNamesystemOf (g.D.Disk.state c.args.disk.now) r x.0) (sym c.in-NoneLeft.ensures.1) x.1)

pub returns-in-NoneLeft : goal.returns-in-NoneLeft
returns-in-NoneLeft g c =
    subst (λ (x : RunningNames). WalksSettled (g.D.Disk.state c.args.disk.now) (g.D.Disk.state c.end_walk.new.disk) x c.args.zone.now c.end_walk.result c.end_walk.new.self) c.in-NoneLeft.ensures.1 c.end_walk.ensures
