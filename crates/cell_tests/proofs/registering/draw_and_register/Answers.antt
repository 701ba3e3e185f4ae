use Rattle.cell_tests.proofs.Drawing.{issues}
use Rattle.cell_tests.proofs.RegistryLemmas.{registers}
use Rattle.cell_tests.proofs.registering.draw_and_register.Goals as goal

pub act_meeting-seen-requires-clause-needs : goal.act_meeting-seen-requires-clause-needs
act_meeting-seen-requires-clause-needs g c = issues _ c.act.new.pass c.in-Some.number _ c.in-Some.is c.act.ensures

pub returns : goal.returns
returns g c = registers _ c.act_lending.new.pass c.act_meeting-seen.new.pass c.in-Some.number _ c.act_meeting-seen.ensures.acts
