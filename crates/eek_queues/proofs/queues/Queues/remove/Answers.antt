use Rattle.std.proofs.Common.{◌≡◌, ◌∙◌, ◌-◌, List, ap, drop, length, length-drop, refl, sym}
use Rattle.circular_buffer.specs.Buffer.{Buffer, buffer}
use Rattle.hk_base.specs.declared.names.Edek.{Edek}
use Rattle.eek_queues.specs.Queues.{dropped, ready_in, set_ready}
use Rattle.eek_queues.specs.Order.{places_of}
use Rattle.eek_queues.specs.Kept.{queues_of}
use Rattle.eek_queues.proofs.Births.{absent-set}
use Rattle.eek_queues.proofs.RingLemmas.{IsAt, changed, drop-but, found, has-ring, kept-set, ready-ring, replace-ring, room-at, stands, stands-is}
use Rattle.eek_queues.proofs.queues.Queues.remove.Goals as goal

left : (c : goal.After-follow) → c.truncate_front.new.self ≡ buffer (drop c.args.count c.index_mut-ring.result.now.ready.items) c.index_mut-ring.result.now.ready.capacity
left c =
    let items : List Edek = c.index_mut-ring.result.now.ready.items in
    c.truncate_front.ensures
    ∙ ap (λ (xs : List Edek). buffer xs c.index_mut-ring.result.now.ready.capacity)
    (ap (λ n. drop (length items - n) items) (c.saturating_sub-left.ensures ∙ ap (λ n. n - c.args.count) c.len-held.ensures.len) ∙ drop-but c.args.count items)

pub follow-requires : goal.follow-requires
follow-requires c =
    let h : IsAt c.self.inside.rings.items c.args.birth c.in-Some.at c.index_mut-ring.result.now =
    found _ _ _ _ c.self.invariant.0.rising c.in-Some.ensures.within c.index_mut-ring.ensures.value c.in-Some.ensures.birth in
    stands _ _ _ _ _ c.self.invariant.0 c.args.birth c.len-held.result (has-ring _ _ _ _ h) (c.len-held.ensures.len ∙ ap length (sym (ready-ring _ _ _ _ h)))

pub invariant_of-self : goal.invariant_of-self
invariant_of-self c =
    let h : IsAt c.self.inside.rings.items c.args.birth c.in-Some.at c.index_mut-ring.result.now =
    found _ _ _ _ c.self.invariant.0.rising c.in-Some.ensures.within c.index_mut-ring.ensures.value c.in-Some.ensures.birth in (
      kept-set _ _ _ _ _ c.self.invariant.0 c.args.birth c.in-Some.at c.index_mut-ring.result.now _ c.saturating_sub-left.result c.follow.new.self.limit _ _ h h.its_birth
          (ap (λ (b : Buffer Edek). b.capacity) (left c) ∙ room-at _ _ _ _ _ c.self.invariant.0 c.args.birth c.in-Some.at c.index_mut-ring.result.now h)
          (c.saturating_sub-left.ensures ∙ ap (λ n. n - c.args.count) c.len-held.ensures.len ∙ sym (length-drop c.args.count c.index_mut-ring.result.now.ready.items) ∙ ap (λ (b : Buffer Edek). length b.items) (sym (left c)))
          c.follow.ensures.limit
          (c.follow.ensures.places (places_of c.self.inside.order.limit (dropped (queues_of c.self.inside.rings.items) c.args.birth))
          (stands-is _ _ _ _ _ c.self.invariant.0 c.args.birth c.len-held.result (has-ring _ _ _ _ h) (c.len-held.ensures.len ∙ ap length (sym (ready-ring _ _ _ _ h)))))
          c.follow.ensures.room,
      c.follow.ensures.limit ∙ c.self.invariant.1,
    )

pub returns-in-Some : goal.returns-in-Some
returns-in-Some c =
    let h : IsAt c.self.inside.rings.items c.args.birth c.in-Some.at c.index_mut-ring.result.now =
    found _ _ _ _ c.self.invariant.0.rising c.in-Some.ensures.within c.index_mut-ring.ensures.value c.in-Some.ensures.birth in
    changed (λ qs. set_ready qs c.args.birth (drop c.args.count (ready_in qs c.args.birth))) c.args.self.now c.self.inside.size c.self.inside.watermark c.self.inside.rings.items _ c.self.view_is
    (replace-ring c.self.inside.rings.items c.args.birth c.in-Some.at c.index_mut-ring.result.now _ (drop c.args.count) _ h refl (left c))

pub returns-in_default : goal.returns-in_default
returns-in_default c =
    sym c.self.view_is
    ∙ changed (λ qs. set_ready qs c.args.birth (drop c.args.count (ready_in qs c.args.birth))) c.args.self.now c.self.inside.size c.self.inside.watermark c.self.inside.rings.items c.self.inside.rings.items c.self.view_is
    (sym (absent-set (queues_of c.self.inside.rings.items) c.args.birth (drop c.args.count (ready_in (queues_of c.self.inside.rings.items) c.args.birth)) c.in_default.ensures.none))
