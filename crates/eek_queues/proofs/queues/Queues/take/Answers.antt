use Rattle.std.proofs.Common.{◌-◌, ◌∙◌, ap, drop, length, length-drop, refl, sym}
use Rattle.std.specs.Prelude.{slice_get}
use Rattle.circular_buffer.specs.Buffer.{Buffer}
use Rattle.hk_base.specs.declared.names.Edek.{Edek}
use Rattle.eek_queues.specs.Queues.{dropped, ready_in, set_ready}
use Rattle.eek_queues.specs.Order.{places_of}
use Rattle.eek_queues.specs.Kept.{queues_of}
use Rattle.eek_queues.proofs.Births.{absent-set}
use Rattle.eek_queues.proofs.RingLemmas.{IsAt, absent-seen, changed, found, has-ring, kept-set, none-front, ready-ring, ready-seen, replace-ring, room-at, stands, stands-is}
use Rattle.eek_queues.proofs.queues.Queues.take.Goals as goal

pub returns-in_err-at-clause-value : goal.returns-in_err-at-clause-value
returns-in_err-at-clause-value c =
    c.from_residual.ensures
    ∙ sym (ap (λ xs. slice_get xs 0) (absent-seen c.args.self.now c.self.inside.size c.self.inside.watermark c.self.inside.rings.items c.self.view_is c.args.birth c.in_err-at.ensures.none))

pub returns-in_err-at-clause-none : goal.returns-in_err-at-clause-none
returns-in_err-at-clause-none c =
    none-front (ready_in c.args.self.now.queues c.args.birth) c.from_residual.result
    (c.from_residual.ensures
    ∙ sym (ap (λ xs. slice_get xs 0) (absent-seen c.args.self.now c.self.inside.size c.self.inside.watermark c.self.inside.rings.items c.self.view_is c.args.birth c.in_err-at.ensures.none)))

pub returns-in_err-at-clause-queues : goal.returns-in_err-at-clause-queues
returns-in_err-at-clause-queues c =
    sym c.self.view_is
    ∙ changed (λ qs. set_ready qs c.args.birth (drop 1 (ready_in qs c.args.birth))) c.args.self.now c.self.inside.size c.self.inside.watermark c.self.inside.rings.items c.self.inside.rings.items c.self.view_is
    (sym (absent-set (queues_of c.self.inside.rings.items) c.args.birth (drop 1 (ready_in (queues_of c.self.inside.rings.items) c.args.birth)) c.in_err-at.ensures.none))

pub follow-requires : goal.follow-requires
follow-requires c =
    let h : IsAt c.self.inside.rings.items c.args.birth c.in_ok-at.at c.index_mut-ring.result.now =
    found _ _ _ _ c.self.invariant.0.rising c.in_ok-at.ensures.within c.index_mut-ring.ensures.value c.in_ok-at.ensures.birth in
    stands _ _ _ _ _ c.self.invariant.0 c.args.birth c.len-count.result (has-ring _ _ _ _ h) (c.len-count.ensures.len ∙ ap length (sym (ready-ring _ _ _ _ h)))

pub invariant_of-self : goal.invariant_of-self
invariant_of-self c =
    let h : IsAt c.self.inside.rings.items c.args.birth c.in_ok-at.at c.index_mut-ring.result.now =
    found _ _ _ _ c.self.invariant.0.rising c.in_ok-at.ensures.within c.index_mut-ring.ensures.value c.in_ok-at.ensures.birth in (
      kept-set _ _ _ _ _ c.self.invariant.0 c.args.birth c.in_ok-at.at c.index_mut-ring.result.now _ (c.len-count.result - 1) c.follow.new.self.limit _ _ h h.its_birth
          (ap (λ (b : Buffer Edek). b.capacity) c.in-Some.ensures.items ∙ room-at _ _ _ _ _ c.self.invariant.0 c.args.birth c.in_ok-at.at c.index_mut-ring.result.now h)
          (ap (λ n. n - 1) c.len-count.ensures.len ∙ sym (length-drop 1 c.index_mut-ring.result.now.ready.items) ∙ ap length (sym (ap (λ (b : Buffer Edek). b.items) c.in-Some.ensures.items)))
          c.follow.ensures.limit
          (c.follow.ensures.places (places_of c.self.inside.order.limit (dropped (queues_of c.self.inside.rings.items) c.args.birth))
          (stands-is _ _ _ _ _ c.self.invariant.0 c.args.birth c.len-count.result (has-ring _ _ _ _ h) (c.len-count.ensures.len ∙ ap length (sym (ready-ring _ _ _ _ h)))))
          c.follow.ensures.room,
      c.follow.ensures.limit ∙ c.self.invariant.1,
    )

pub returns-in-Some-clause-value : goal.returns-in-Some-clause-value
returns-in-Some-clause-value c =
    let h : IsAt c.self.inside.rings.items c.args.birth c.in_ok-at.at c.index_mut-ring.result.now =
    found _ _ _ _ c.self.invariant.0.rising c.in_ok-at.ensures.within c.index_mut-ring.ensures.value c.in_ok-at.ensures.birth in
    c.in-Some.ensures.value ∙ sym (ap (λ xs. slice_get xs 0) (ready-seen c.args.self.now c.self.inside.size c.self.inside.watermark c.self.inside.rings.items c.self.view_is c.args.birth c.in_ok-at.at c.index_mut-ring.result.now h))

pub returns-in-Some-clause-none : goal.returns-in-Some-clause-none
returns-in-Some-clause-none c =
    let h : IsAt c.self.inside.rings.items c.args.birth c.in_ok-at.at c.index_mut-ring.result.now =
    found _ _ _ _ c.self.invariant.0.rising c.in_ok-at.ensures.within c.index_mut-ring.ensures.value c.in_ok-at.ensures.birth in
    none-front (ready_in c.args.self.now.queues c.args.birth) _
    (c.in-Some.ensures.value ∙ sym (ap (λ xs. slice_get xs 0) (ready-seen c.args.self.now c.self.inside.size c.self.inside.watermark c.self.inside.rings.items c.self.view_is c.args.birth c.in_ok-at.at c.index_mut-ring.result.now h)))

pub returns-in-Some-clause-queues : goal.returns-in-Some-clause-queues
returns-in-Some-clause-queues c =
    let h : IsAt c.self.inside.rings.items c.args.birth c.in_ok-at.at c.index_mut-ring.result.now =
    found _ _ _ _ c.self.invariant.0.rising c.in_ok-at.ensures.within c.index_mut-ring.ensures.value c.in_ok-at.ensures.birth in
    changed (λ qs. set_ready qs c.args.birth (drop 1 (ready_in qs c.args.birth))) c.args.self.now c.self.inside.size c.self.inside.watermark c.self.inside.rings.items _ c.self.view_is
    (replace-ring c.self.inside.rings.items c.args.birth c.in_ok-at.at c.index_mut-ring.result.now _ (drop 1) _ h refl c.in-Some.ensures.items)

pub returns-in-None-clause-value : goal.returns-in-None-clause-value
returns-in-None-clause-value c =
    let h : IsAt c.self.inside.rings.items c.args.birth c.in_ok-at.at c.index_mut-ring.result.now =
    found _ _ _ _ c.self.invariant.0.rising c.in_ok-at.ensures.within c.index_mut-ring.ensures.value c.in_ok-at.ensures.birth in
    c.in-None.ensures.value ∙ sym (ap (λ xs. slice_get xs 0) (ready-seen c.args.self.now c.self.inside.size c.self.inside.watermark c.self.inside.rings.items c.self.view_is c.args.birth c.in_ok-at.at c.index_mut-ring.result.now h))

pub returns-in-None-clause-none : goal.returns-in-None-clause-none
returns-in-None-clause-none c =
    let h : IsAt c.self.inside.rings.items c.args.birth c.in_ok-at.at c.index_mut-ring.result.now =
    found _ _ _ _ c.self.invariant.0.rising c.in_ok-at.ensures.within c.index_mut-ring.ensures.value c.in_ok-at.ensures.birth in
    none-front (ready_in c.args.self.now.queues c.args.birth) _
    (c.in-None.ensures.value ∙ sym (ap (λ xs. slice_get xs 0) (ready-seen c.args.self.now c.self.inside.size c.self.inside.watermark c.self.inside.rings.items c.self.view_is c.args.birth c.in_ok-at.at c.index_mut-ring.result.now h)))

pub returns-in-None-clause-queues : goal.returns-in-None-clause-queues
returns-in-None-clause-queues c =
    let h : IsAt c.self.inside.rings.items c.args.birth c.in_ok-at.at c.index_mut-ring.result.now =
    found _ _ _ _ c.self.invariant.0.rising c.in_ok-at.ensures.within c.index_mut-ring.ensures.value c.in_ok-at.ensures.birth in
    changed (λ qs. set_ready qs c.args.birth (drop 1 (ready_in qs c.args.birth))) c.args.self.now c.self.inside.size c.self.inside.watermark c.self.inside.rings.items _ c.self.view_is
    (replace-ring c.self.inside.rings.items c.args.birth c.in_ok-at.at c.index_mut-ring.result.now _ (drop 1) _ h refl c.in-None.ensures.items)
