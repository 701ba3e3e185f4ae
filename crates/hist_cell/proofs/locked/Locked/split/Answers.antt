use Rattle.std.proofs.Common.{ap, ◌∙◌}
use Rattle.hist_cell.specs.History.{newcomer}
use Rattle.hist_cell.proofs.Acting.{splits_by}
use Rattle.hist_cell.proofs.locked.Locked.split.Goals as goal

pub returns-clause-new : goal.returns-clause-new
returns-clause-new g c =
    let took = ap (λ m. m.0) c.take_turn.ensures.2 in
    splits_by g.C.Core.step g.C.Core.allows c.args.pass.now c.pass.inside.seat.me.0 c.into_seat-turn.result.me.0 c.take_turn.new.seat.me.0 c.new_seat-seat.result.me.0 c.learn.result
    c.pass.view_is took (ap (λ m. m.0) c.new_seat-seat.ensures.new.1 ∙ ap newcomer (ap (λ m. m.0) c.learn.ensures.same.2)) c.pass.invariant.numbers c.learn.ensures.tells
