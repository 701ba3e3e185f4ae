use Rattle.hist_cell.proofs.Acting.{takes_in_by}
use Rattle.hist_cell.proofs.cell.Cell.act_meeting.Goals as goal

pub returns : goal.returns
returns g c =
    takes_in_by g.C.Core.step g.C.Core.allows g.C.Holds.takes g.C.Core.acts _ _ c.args.pass.now c.act_meeting.new.pass c.args.with c.args.call c.act_meeting.result c.act_meeting.ensures.acts
    c.act_meeting.ensures.meets
