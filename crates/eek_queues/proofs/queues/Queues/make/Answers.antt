use Rattle.std.proofs.Common.{◌≡◌, ◌≤◌, ◌∙◌, ℕ, suc, false, [], List, ap, length, subst, sym, arith}
use Rattle.std.specs.List.{insert}
use Rattle.std.specs.Vec.{vec_capacity}
use Rattle.std.proofs.lemmas.List.{length-map}
use Rattle.circular_buffer.specs.Buffer.{Buffer}
use Rattle.hk_base.specs.declared.names.Edek.{Edek}
use Rattle.eek_queues.specs.declared.order.QueuePlace.{QueuePlace}
use Rattle.eek_queues.specs.declared.rings.Ring.{Ring}
use Rattle.eek_queues.specs.Queues.{has_queue, put_queue}
use Rattle.eek_queues.specs.Order.{AreInPlaceOrder, place_of, with_place}
use Rattle.eek_queues.specs.Kept.{AreQueuesKept, queue_of, queues_of}
use Rattle.eek_queues.proofs.Places.{in_order-places_of}
use Rattle.eek_queues.proofs.RingLemmas.{changed, has-seen, insert-ring, kept-insert, length-places_of}
use Rattle.eek_queues.proofs.queues.Queues.make.Goals as goal

pub reserve-requires : goal.reserve-requires
reserve-requires c =
    omega (arith, ap length c.self.invariant.0.order, length-places_of c.self.inside.order.limit (queues_of c.self.inside.rings.items), length-map c.self.inside.rings.items queue_of)

pub enter-requires-clause-order : goal.enter-requires-clause-order
enter-requires-clause-order c =
    subst (λ (ps : List QueuePlace). AreInPlaceOrder ps) (sym (c.reserve.ensures.places ∙ c.self.invariant.0.order)) (in_order-places_of c.self.inside.order.limit (queues_of c.self.inside.rings.items))

pub enter-requires-clause-room : goal.enter-requires-clause-room
enter-requires-clause-room c =
    omega (arith, ap length c.reserve.ensures.places, ap length c.self.invariant.0.order, length-places_of c.self.inside.order.limit (queues_of c.self.inside.rings.items), length-map c.self.inside.rings.items queue_of, c.in_ok-reserve.ensures.room)

pub invariant_of-self-2 : goal.invariant_of-self-2
invariant_of-self-2 c =
    let new : Ring = record { birth = c.args.birth; ready = c.in_ok-ready.ready } in
    let none : has_queue (queues_of c.self.inside.rings.items) c.args.birth ≡ false = sym (has-seen c.args.self.now c.self.inside.size c.self.inside.watermark c.self.inside.rings.items c.self.view_is c.args.birth) ∙ c.requires in
    let places : c.enter.new.self.places.items ≡ with_place c.self.inside.order.limit (place_of (queue_of new)) c.self.inside.order.places.items =
    c.enter.ensures.places
    ∙ ap (λ (n : ℕ). with_place n (record { count = 0; birth = c.args.birth }) c.reserve.new.self.places.items) c.reserve.ensures.limit
    ∙ ap (with_place c.self.inside.order.limit (record { count = 0; birth = c.args.birth })) c.reserve.ensures.places
    ∙ ap (λ (b : Buffer Edek). with_place c.self.inside.order.limit (record { count = length b.items; birth = c.args.birth }) c.self.inside.order.places.items) (sym c.in_ok-ready.ensures) in
    let room : suc (length c.self.inside.rings.items) ≤ vec_capacity c.enter.new.self.places = omega (arith, c.in_ok-reserve.ensures.room, c.enter.ensures.room) in
    let kept : AreQueuesKept c.self.inside.size c.enter.new.self.limit (insert c.self.inside.rings.items c.place_of_birth-at.result new) c.enter.new.self.places.items (vec_capacity c.enter.new.self.places) =
    kept-insert _ _ _ _ _ c.self.invariant.0 c.place_of_birth-at.result new c.enter.new.self.limit _ _ none c.place_of_birth-at.ensures.most c.place_of_birth-at.ensures.parted
    (ap (λ (b : Buffer Edek). b.capacity) c.in_ok-ready.ensures) (c.enter.ensures.limit ∙ c.reserve.ensures.limit) places room in (
      subst (λ (rings : List Ring). AreQueuesKept c.self.inside.size c.enter.new.self.limit rings c.enter.new.self.places.items (vec_capacity c.enter.new.self.places)) (sym c.in_ok-insert.ensures.items) kept,
      c.enter.ensures.limit ∙ c.reserve.ensures.limit ∙ c.self.invariant.1,
    )

pub returns-clause-ok : goal.returns-clause-ok
returns-clause-ok c =
    changed (λ qs. put_queue (record { birth = c.args.birth; ready = [] }) qs) c.args.self.now c.self.inside.size c.self.inside.watermark c.self.inside.rings.items c.insert.new.self.items c.self.view_is
    (ap queues_of c.in_ok-insert.ensures.items
    ∙ insert-ring c.self.inside.rings.items c.place_of_birth-at.result (record { birth = c.args.birth; ready = c.in_ok-ready.ready }) c.place_of_birth-at.ensures.most c.place_of_birth-at.ensures.parted
    ∙ ap (λ (b : Buffer Edek). put_queue (record { birth = c.args.birth; ready = b.items }) (queues_of c.self.inside.rings.items)) c.in_ok-ready.ensures)
