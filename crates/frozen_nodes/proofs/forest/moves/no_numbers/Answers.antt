use Rattle.std.proofs.Common.{◌≡◌, ◌++◌, ◌∷◌, None, [], ap, arith, length, length-append}
use Rattle.frozen_nodes.proofs.Moving.{none-first, none-more}
use Rattle.frozen_nodes.proofs.forest.moves.no_numbers.Goals as goal

pub fill-init : goal.fill-init
fill-init c = record { count = ap length c.new-numbers.ensures.items; none = none-first c.new-numbers.result.items c.new-numbers.ensures.items }

pub fill-preserved : goal.fill-preserved
fill-preserved c =
    let l : length c.push.new.self.items ≡ length (c.fill.numbers.items ++ None ∷ []) = ap length c.in_ok-push.ensures.items in
    record { count = omega (arith, l, length-append c.fill.numbers.items (None ∷ []), c.fill.invariant.count); none = none-more c.fill.numbers.items c.push.new.self.items c.in_ok-push.ensures.items c.fill.invariant.none }
