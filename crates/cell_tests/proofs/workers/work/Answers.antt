use Rattle.cell_tests.proofs.Drawing.{issues}
use Rattle.cell_tests.proofs.workers.work.Goals as goal

pub returns-clause-drawn : goal.returns-clause-drawn
returns-clause-drawn g c = issues _ c.act.new.pass c.in-Some.n _ c.in-Some.is c.act.ensures
