use Rattle.std.proofs.Common.{refl}
use Rattle.world_desk.proofs.OrderLemmas.{happens_call}
use Rattle.world_desk.proofs.desk.WorldDeskDesk.kms.Goals as goal

pub returns-clause-answers : goal.returns-clause-answers
returns-clause-answers g c = (
  (refl, (refl, (refl, refl))),
  happens_call g.D.Disk.state g.W.Words.to_come c.now_ms-now.result (record { disk = c.args.self.now.disk.now; world = c.args.self.now.world.now; words = c.args.self.now.words.now }) c.args.user c.args.call c.answer.result c.reply_in-reply.result
      (record { disk = c.answer.new.disk; world = c.answer.new.world; words = c.answer.new.words }) c.answer.ensures.leads c.reply_in-reply.ensures,
)
