use Rattle.std.proofs.Common.{◌∙◌, List, ap, length, subst, sym}
use Rattle.std.specs.List.{remove}
use Rattle.std.specs.Vec.{vec_capacity}
use Rattle.eek_queues.specs.declared.rings.Ring.{Ring}
use Rattle.eek_queues.specs.Queues.{dropped}
use Rattle.eek_queues.specs.Order.{places_of}
use Rattle.eek_queues.specs.Kept.{AreQueuesKept, queues_of}
use Rattle.eek_queues.proofs.Births.{absent-dropped}
use Rattle.eek_queues.proofs.RingLemmas.{IsAt, changed, found, has-ring, kept-remove, ready-ring, remove-ring, stands, stands-is}
use Rattle.eek_queues.proofs.queues.Queues.drop_queue.Goals as goal

pub leave-requires : goal.leave-requires
leave-requires c =
    let h : IsAt c.self.inside.rings.items c.args.birth c.in-Some.at c.remove-ring.result =
    found _ _ _ _ c.self.invariant.0.rising c.in-Some.ensures.within c.remove-ring.ensures.value c.in-Some.ensures.birth in
    stands _ _ _ _ _ c.self.invariant.0 c.args.birth c.len.result (has-ring _ _ _ _ h) (c.len.ensures.len ∙ ap length (sym (ready-ring _ _ _ _ h)))

pub invariant_of-self : goal.invariant_of-self
invariant_of-self c =
    let h : IsAt c.self.inside.rings.items c.args.birth c.in-Some.at c.remove-ring.result =
    found _ _ _ _ c.self.invariant.0.rising c.in-Some.ensures.within c.remove-ring.ensures.value c.in-Some.ensures.birth in
    let kept : AreQueuesKept c.self.inside.size c.leave.new.self.limit (remove c.self.inside.rings.items c.in-Some.at) c.leave.new.self.places.items (vec_capacity c.leave.new.self.places) =
    kept-remove _ _ _ _ _ c.self.invariant.0 c.args.birth c.in-Some.at c.remove-ring.result c.leave.new.self.limit _ _ h c.leave.ensures.limit
    (c.leave.ensures.places (places_of c.self.inside.order.limit (dropped (queues_of c.self.inside.rings.items) c.args.birth))
    (stands-is _ _ _ _ _ c.self.invariant.0 c.args.birth c.len.result (has-ring _ _ _ _ h) (c.len.ensures.len ∙ ap length (sym (ready-ring _ _ _ _ h)))))
    c.leave.ensures.room in (
      subst (λ (rings : List Ring). AreQueuesKept c.self.inside.size c.leave.new.self.limit rings c.leave.new.self.places.items (vec_capacity c.leave.new.self.places)) (sym c.remove-ring.ensures.items) kept,
      c.leave.ensures.limit ∙ c.self.invariant.1,
    )

pub returns-in-Some : goal.returns-in-Some
returns-in-Some c =
    let h : IsAt c.self.inside.rings.items c.args.birth c.in-Some.at c.remove-ring.result =
    found _ _ _ _ c.self.invariant.0.rising c.in-Some.ensures.within c.remove-ring.ensures.value c.in-Some.ensures.birth in
    changed (λ qs. dropped qs c.args.birth) c.args.self.now c.self.inside.size c.self.inside.watermark c.self.inside.rings.items c.remove-ring.new.self.items c.self.view_is
    (ap queues_of c.remove-ring.ensures.items ∙ remove-ring c.self.inside.rings.items c.args.birth c.in-Some.at c.remove-ring.result h)

pub returns-in_default : goal.returns-in_default
returns-in_default c =
    sym c.self.view_is
    ∙ changed (λ qs. dropped qs c.args.birth) c.args.self.now c.self.inside.size c.self.inside.watermark c.self.inside.rings.items c.self.inside.rings.items c.self.view_is
    (sym (absent-dropped (queues_of c.self.inside.rings.items) c.args.birth c.in_default.ensures.none))
