use Rattle.world_desk.proofs.OrderLemmas.{Carrying, events_left}
use Rattle.world_desk.proofs.orders.carry_out.Given as goal

abbrev pub invariant-events : goal.invariant-events
invariant-events g l =
    Carrying g.D.Disk.state g.W.Words.to_come l.now l.fn.first (record { disk = l.fn.disk; world = l.fn.world; words = l.fn.words }) l.event (record { disk = l.disk; world = l.world; words = l.words })

abbrev pub decreases-events : goal.decreases-events
decreases-events g l = events_left l.event
