use Rattle.std.proofs.Common.{◌≡◌, ◌∙◌, ◌<◌, ℕ, false, subst, arith, length}
use Rattle.name_calls.specs.Paths.{is_prefix}
use Rattle.frozen_nodes.specs.Copies.{path_at}
use Rattle.frozen_nodes.proofs.Blocks.{below-is, places-start, places-upto}
use Rattle.frozen_nodes.proofs.takes.end_below.Goals as goal

pub halve-init : goal.halve-init
halve-init c = record {
  after = omega arith;
  order = omega (arith, c.requires.from, c.rows-high.ensures.count);
  most = omega (arith, c.rows-high.ensures.count);
  places = places-start c.args.tree.now.rows c.args.path.now c.args.from c.requires.path;
  stop = λ lt. absurd (omega (arith, lt, c.rows-high.ensures.count));
}

pub halve-preserved-then-place_is_below : goal.halve-preserved-then-place_is_below
halve-preserved-then-place_is_below c =
    let inside : c.halfway-middle.result < length c.args.tree.now.rows = omega (arith, c.halfway-middle.ensures.to, c.halve.invariant.most) in
    record {
      after = omega (arith, c.halve.invariant.after, c.halfway-middle.ensures.from);
      order = omega (arith, c.halfway-middle.ensures.to);
      most = c.halve.invariant.most;
      places = places-upto c.args.tree.now.rows c.args.path.now c.args.from c.halfway-middle.result c.rows-high.ensures.rules.rising c.requires.path inside
          (below-is c.args.tree.now.rows c.args.path.now c.halfway-middle.result c.place_is_below.result c.place_is_below.ensures ∙ c.if-place_is_below.true);
      stop = c.halve.invariant.stop;
    }

pub halve-preserved : goal.halve-preserved
halve-preserved c = record {
  after = c.halve.invariant.after;
  order = c.halfway-middle.ensures.from;
  most = omega (arith, c.halfway-middle.ensures.to, c.halve.invariant.most);
  places = c.halve.invariant.places;
  stop = λ lt. below-is c.args.tree.now.rows c.args.path.now c.halfway-middle.result c.place_is_below.result c.place_is_below.ensures ∙ c.if-place_is_below.false;
}

pub returns : goal.returns
returns c =
    let same : c.halve.high ≡ c.halve.low = omega (arith, c.halve-test.false, c.halve.invariant.order) in
    record {
      after = c.halve.invariant.after;
      most = omega (arith, same, c.halve.invariant.most);
      path = c.requires.path;
      places = c.halve.invariant.places;
      stop = λ lt. subst (λ (k : ℕ). is_prefix c.args.path.now (path_at c.args.tree.now.rows k) ≡ false) same (c.halve.invariant.stop (omega (arith, lt, same)));
    }
