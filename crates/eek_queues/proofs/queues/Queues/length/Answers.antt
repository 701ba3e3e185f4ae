use Rattle.std.proofs.Common.{◌≡◌, ◌∙◌, ap, length, sym, arith}
use Rattle.eek_queues.proofs.RingLemmas.{IsAt, absent-seen, found, ready-seen, room-at}
use Rattle.eek_queues.proofs.queues.Queues.length.Goals as goal

pub overflow_cast-result : goal.overflow_cast-result
overflow_cast-result c =
    let h : IsAt c.self.inside.rings.items c.args.birth c.in-Some.at c.index.result.now =
    found _ _ _ _ c.self.invariant.0.rising c.in-Some.ensures.within c.index.ensures c.in-Some.ensures.birth in
    let e : c.index.result.now.ready.capacity ≡ c.self.inside.size = room-at _ _ _ _ _ c.self.invariant.0 c.args.birth c.in-Some.at c.index.result.now h in
    omega arith

pub returns-in-Some-clause-length : goal.returns-in-Some-clause-length
returns-in-Some-clause-length c =
    let h : IsAt c.self.inside.rings.items c.args.birth c.in-Some.at c.index.result.now =
    found _ _ _ _ c.self.invariant.0.rising c.in-Some.ensures.within c.index.ensures c.in-Some.ensures.birth in
    c.len.ensures.len ∙ ap length (sym (ready-seen c.args.self.now c.self.inside.size c.self.inside.watermark c.self.inside.rings.items c.self.view_is c.args.birth c.in-Some.at c.index.result.now h))

pub returns-in-None-clause-length : goal.returns-in-None-clause-length
returns-in-None-clause-length c =
    sym (ap length (absent-seen c.args.self.now c.self.inside.size c.self.inside.watermark c.self.inside.rings.items c.self.view_is c.args.birth c.in-None.ensures.none))
