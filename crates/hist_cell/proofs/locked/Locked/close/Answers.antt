use Rattle.std.proofs.Common.{sym, ap, ◌∙◌}
use Rattle.hist_cell.proofs.Acting.{one_item, closes_by}
use Rattle.hist_cell.proofs.locked.Locked.close.Goals as goal

pub returns : goal.returns
returns g c =
    let turn = c.self.invariant in
    let t = c.into_seat.result.me.0 in
    let same = one_item t turn.view (sym c.into_seat.ensures.2 ∙ turn.views) in
    closes_by g.C.Core.step g.C.Core.allows c.args.pass turn.first c.self.inside.core c.pass.inside.seat.me.0 t c.take_turn.new.seat.me.0 turn.view c.learn.result
    c.pass.view_is (ap (λ m. m.0) c.take_turn.ensures.2) same turn.first_is turn.core_is c.pass.invariant.numbers c.learn.ensures.tells
