use Rattle.world_desk.proofs.OrderLemmas.{carried, carrying_begins, carrying_fewer, carrying_on}
use Rattle.world_desk.proofs.orders.carry_out.Goals as goal

pub events-init : goal.events-init
events-init g c =
    carrying_begins g.D.Disk.state g.W.Words.to_come c.args.now c.args.first (record { disk = c.args.disk.now; world = c.args.world.now; words = c.args.words.now }) c.requires.ready c.requires.goes_on

pub events-smaller : goal.events-smaller
events-smaller g c =
    carrying_fewer g.D.Disk.state g.W.Words.to_come c.args.now (record { disk = c.events.disk; world = c.events.world; words = c.events.words }) c.events.event c.answer.result
    (record { disk = c.answer.new.disk; world = c.answer.new.world; words = c.answer.new.words }) c.in-Event.next
    c.events.invariant.ready c.answer.ensures.leads c.in-Event.ensures

pub events-preserved : goal.events-preserved
events-preserved g c =
    carrying_on g.D.Disk.state g.W.Words.to_come c.args.now c.args.first (record { disk = c.args.disk.now; world = c.args.world.now; words = c.args.words.now }) c.events.event
    (record { disk = c.events.disk; world = c.events.world; words = c.events.words }) c.answer.result (record { disk = c.answer.new.disk; world = c.answer.new.world; words = c.answer.new.words })
    c.in-Event.next c.events.invariant c.answer.ensures.leads c.answer.ensures.ready c.in-Event.ensures

pub returns-in-Reply-clause-carries : goal.returns-in-Reply-clause-carries
returns-in-Reply-clause-carries g c =
    carried g.D.Disk.state g.W.Words.to_come c.args.now c.args.first (record { disk = c.args.disk.now; world = c.args.world.now; words = c.args.words.now }) c.events.event
    (record { disk = c.events.disk; world = c.events.world; words = c.events.words }) c.answer.result (record { disk = c.answer.new.disk; world = c.answer.new.world; words = c.answer.new.words })
    c.in-Reply.reply c.events.invariant c.answer.ensures.leads c.in-Reply.ensures.0 c.in-Reply.ensures.1
