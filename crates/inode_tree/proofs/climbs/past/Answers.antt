use Rattle.std.proofs.Common.{arith, ◌<◌, length, ℕ, sym, ◌∙◌, subst}
use Rattle.inode_tree.specs.Arena.{rows_of}
use Rattle.inode_tree.proofs.Pasts.{past-most, past-on, past-stops}
use Rattle.inode_tree.proofs.Ranks.{length-rows, within-at}
use Rattle.inode_tree.proofs.climbs.past.Goals as goal

pub halve-init : goal.halve-init
halve-init c = record { low = c.requires.from; high = let most = past-most (rows_of c.args.nodes.now.items c.args.order.now.items) c.args.path.now in omega (arith, length-rows c.args.nodes.now.items c.args.order.now.items); most = omega arith }

pub before_or_below-requires-clause-live : goal.before_or_below-requires-clause-live
before_or_below-requires-clause-live c =
    let middle : c.place_between-middle.result < length c.args.order.now.items = let m = c.halve.invariant.most in let t = c.place_between-middle.ensures.to in omega arith in
    subst (λ (k : ℕ). k < length c.args.nodes.now.items) (sym c.get.ensures) (within-at _ _ _ c.requires.within middle)

pub halve-preserved-then-before_or_below : goal.halve-preserved-then-before_or_below
halve-preserved-then-before_or_below c =
    let middle : c.place_between-middle.result < length c.args.order.now.items = let m = c.halve.invariant.most in let t = c.place_between-middle.ensures.to in omega arith in
    record {
      low = past-on c.args.nodes.now.items c.args.order.now.items c.args.path.now c.place_between-middle.result c.get.result c.requires.rising middle c.get.ensures (sym c.before_or_below.ensures ∙ c.if-before_or_below.true);
      high = c.halve.invariant.high;
      most = c.halve.invariant.most;
    }

pub halve-preserved : goal.halve-preserved
halve-preserved c =
    let middle : c.place_between-middle.result < length c.args.order.now.items = let m = c.halve.invariant.most in let t = c.place_between-middle.ensures.to in omega arith in
    record {
      low = c.halve.invariant.low;
      high = past-stops c.args.nodes.now.items c.args.order.now.items c.args.path.now c.place_between-middle.result c.get.result middle c.get.ensures (sym c.before_or_below.ensures ∙ c.if-before_or_below.false);
      most = omega arith;
    }

pub returns : goal.returns
returns c = omega arith
