use Rattle.std.proofs.Common.{◌∙◌, [], ap, length, refl, sym}
use Rattle.circular_buffer.specs.Buffer.{Buffer}
use Rattle.hk_base.specs.declared.names.Edek.{Edek}
use Rattle.eek_queues.specs.Queues.{dropped, set_ready}
use Rattle.eek_queues.specs.Order.{places_of}
use Rattle.eek_queues.specs.Kept.{queues_of}
use Rattle.eek_queues.proofs.Births.{absent-set}
use Rattle.eek_queues.proofs.RingLemmas.{IsAt, changed, found, has-ring, kept-set, ready-ring, replace-ring, room-at, stands, stands-is}
use Rattle.eek_queues.proofs.queues.Queues.drain.Goals as goal

pub follow-requires : goal.follow-requires
follow-requires c =
    let h : IsAt c.self.inside.rings.items c.args.birth c.in-Some.at c.index_mut-ring.result.now =
    found _ _ _ _ c.self.invariant.0.rising c.in-Some.ensures.within c.index_mut-ring.ensures.value c.in-Some.ensures.birth in
    stands _ _ _ _ _ c.self.invariant.0 c.args.birth c.len.result (has-ring _ _ _ _ h) (c.len.ensures.len ∙ ap length (sym (ready-ring _ _ _ _ h)))

pub invariant_of-self : goal.invariant_of-self
invariant_of-self c =
    let h : IsAt c.self.inside.rings.items c.args.birth c.in-Some.at c.index_mut-ring.result.now =
    found _ _ _ _ c.self.invariant.0.rising c.in-Some.ensures.within c.index_mut-ring.ensures.value c.in-Some.ensures.birth in (
      kept-set _ _ _ _ _ c.self.invariant.0 c.args.birth c.in-Some.at c.index_mut-ring.result.now _ 0 c.follow.new.self.limit _ _ h h.its_birth
          (ap (λ (b : Buffer Edek). b.capacity) c.clear.ensures ∙ room-at _ _ _ _ _ c.self.invariant.0 c.args.birth c.in-Some.at c.index_mut-ring.result.now h)
          (ap (λ (b : Buffer Edek). length b.items) (sym c.clear.ensures))
          c.follow.ensures.limit
          (c.follow.ensures.places (places_of c.self.inside.order.limit (dropped (queues_of c.self.inside.rings.items) c.args.birth))
          (stands-is _ _ _ _ _ c.self.invariant.0 c.args.birth c.len.result (has-ring _ _ _ _ h) (c.len.ensures.len ∙ ap length (sym (ready-ring _ _ _ _ h)))))
          c.follow.ensures.room,
      c.follow.ensures.limit ∙ c.self.invariant.1,
    )

pub returns-in-Some : goal.returns-in-Some
returns-in-Some c =
    let h : IsAt c.self.inside.rings.items c.args.birth c.in-Some.at c.index_mut-ring.result.now =
    found _ _ _ _ c.self.invariant.0.rising c.in-Some.ensures.within c.index_mut-ring.ensures.value c.in-Some.ensures.birth in
    changed (λ qs. set_ready qs c.args.birth []) c.args.self.now c.self.inside.size c.self.inside.watermark c.self.inside.rings.items _ c.self.view_is
    (replace-ring c.self.inside.rings.items c.args.birth c.in-Some.at c.index_mut-ring.result.now _ (λ _. []) _ h refl c.clear.ensures)

pub returns-in_default : goal.returns-in_default
returns-in_default c =
    sym c.self.view_is
    ∙ changed (λ qs. set_ready qs c.args.birth []) c.args.self.now c.self.inside.size c.self.inside.watermark c.self.inside.rings.items c.self.inside.rings.items c.self.view_is
    (sym (absent-set (queues_of c.self.inside.rings.items) c.args.birth [] c.in_default.ensures.none))
