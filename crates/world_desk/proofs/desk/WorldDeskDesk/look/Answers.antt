use Rattle.std.proofs.Common.{[], refl}
use Rattle.world_desk.proofs.OrderLemmas.{happens_look}
use Rattle.world_desk.proofs.desk.WorldDeskDesk.look.Goals as goal

pub returns-clause-answers : goal.returns-clause-answers
returns-clause-answers g c = (
  (refl, (refl, (refl, refl))),
  happens_look g.D.Disk.state g.W.Words.to_come (record { disk = c.args.self.now.disk.now; world = c.args.self.now.world.now; words = c.args.self.now.words.now }) [] c.args._page c.args.self.now.counts,
)
