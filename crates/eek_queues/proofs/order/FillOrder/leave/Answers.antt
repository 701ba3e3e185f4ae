use Rattle.std.proofs.Common.{◌∙◌, List, sym, subst, arith}
use Rattle.eek_queues.specs.declared.order.QueuePlace.{QueuePlace}
use Rattle.eek_queues.specs.Order.{AreInPlaceOrder}
use Rattle.eek_queues.proofs.Places.{in_order-with, remove-with_place}
use Rattle.eek_queues.proofs.order.FillOrder.leave.Goals as goal

pub remove-requires : goal.remove-requires
remove-requires c =
    omega (arith, (remove-with_place c.args.self.now.limit c.args.place c.requires.others c.args.self.now.places.items c.place_in-at.result c.if-place-self.true c.requires.is c.place_in-at.ensures.most c.place_in-at.ensures.parted).1)

pub returns-then-place-self-clause-places : goal.returns-then-place-self-clause-places
returns-then-place-self-clause-places c =
    λ rest e. c.remove.ensures.items
    ∙ (remove-with_place c.args.self.now.limit c.args.place rest c.args.self.now.places.items c.place_in-at.result c.if-place-self.true e c.place_in-at.ensures.most c.place_in-at.ensures.parted).0

pub place_in-at-requires : goal.place_in-at-requires
place_in-at-requires c =
    subst (λ (ps : List QueuePlace). AreInPlaceOrder ps) (sym c.requires.is) (in_order-with c.args.self.now.limit c.args.place c.requires.others c.requires.order)
