use Rattle.std.proofs.Common.{sym, subst}
use Rattle.hist_cell.proofs.Acting.{lends_by}
use Rattle.hist_cell.proofs.locked.Locked.act_lending.Goals as goal

pub returns-clause-lent : goal.returns-clause-lent
returns-clause-lent g c =
    lends_by g.C.Core.step g.C.Core.allows g.C.Holds.lends c.lend.new.self _ c.args.pass.now c.act-reply.new.pass c.args.call c.act-reply.result c.in_ok-lent.lent c.act-reply.ensures
    (subst (λ s. g.C.Holds.lends s c.in_ok-lent.lent) (sym c.in_ok-lent.ensures.same) c.in_ok-lent.ensures.lent)
