use Rattle.std.proofs.Common.{◌≡◌, ◌∙◌, List, cond, refl, Result, Ok, Err, arith}
use Rattle.std.specs.Result.{IsOk, is_ok}
use Rattle.eek_queues.specs.declared.order.QueuePlace.{QueuePlace}
use Rattle.eek_queues.proofs.Places.{with_place-insert}
use Rattle.eek_queues.proofs.order.FillOrder.enter.Goals as goal

succeeded : {T E : Type 0} (r : Result T E) (a b : List QueuePlace) → IsOk r → cond (is_ok r) a b ≡ a
succeeded (Ok x) a b h = refl
succeeded (Err e) a b h = cc

pub returns-then-place-self-clause-places : goal.returns-then-place-self-clause-places
returns-then-place-self-clause-places c =
    c.insert.ensures.items
    ∙ succeeded c.insert.result _ _ (c.insert.ensures.succeeds (omega arith))
    ∙ with_place-insert c.args.self.now.limit c.args.place c.args.self.now.places.items c.place_in-at.result c.if-place-self.true c.place_in-at.ensures.most c.place_in-at.ensures.parted
