use Rattle.std.proofs.Common.{arith}
use Rattle.key_index.proofs.NextPlaces.{count_of, next_of_run, second_of_run}
use Rattle.key_index.proofs.runs.PlaceRun.try_push.Goals as goal

pub returns-then-count-clause-next : goal.returns-then-count-clause-next
returns-then-count-clause-next c g =
    absurd (omega (arith, count_of c.self.inside.first c.self.inside.step c.self.inside.count c.args.self.now c.self.view_is, g.few))

pub returns-then-count-clause-second : goal.returns-then-count-clause-second
returns-then-count-clause-second c g =
    let one = second_of_run c.self.inside.first c.self.inside.step c.self.inside.count c.args.self.now c.args.place c.self.view_is g in
    absurd (omega (arith, one.0))

pub returns-in-None-clause-next : goal.returns-in-None-clause-next
returns-in-None-clause-next c g =
    let no = c.in-None.ensures.next (next_of_run c.self.inside.first c.self.inside.step c.self.inside.count c.args.self.now c.args.place c.self.view_is g) in
    absurd cc

pub returns-in-None-clause-second : goal.returns-in-None-clause-second
returns-in-None-clause-second c g =
    let one = second_of_run c.self.inside.first c.self.inside.step c.self.inside.count c.args.self.now c.args.place c.self.view_is g in
    let no = c.in-None.ensures.second g.step one.0 one.1 g.near in
    absurd cc
