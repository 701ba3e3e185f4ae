use Rattle.std.specs.Prelude.{option_map}
use Rattle.world_desk.proofs.OrderLemmas.{passes}
use Rattle.world_desk.proofs.orders.answer_order.Goals as goal

pub returns-clause-passes : goal.returns-clause-passes
returns-clause-passes g c =
    passes g.D.Disk.state g.W.Words.to_come c.args.now (record { disk = c.args.disk.now; world = c.args.world.now; words = c.args.words.now }) c.args.user c.args.order.now c.in-Ok.first c.carry_out-reply.result
    (record { disk = c.carry_out-reply.new.disk; world = c.carry_out-reply.new.world; words = c.carry_out-reply.new.words })
    (option_map (λ path. path.now) c.submitted_by.result) (record { disk = c.drive.new.disk; world = c.drive.new.world; words = c.drive.new.words })
    c.in-Ok.ensures c.carry_out-reply.ensures.carries c.submitted_by.ensures c.drive.ensures.drives
