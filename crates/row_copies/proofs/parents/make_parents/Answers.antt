use Rattle.std.proofs.Common.{◌≡◌, ◌∙◌, ◌+◌, [], suc, arith}
use Rattle.row_copies.specs.Copies.{Done}
use Rattle.row_copies.proofs.AddLemmas.{keeps-same}
use Rattle.row_copies.proofs.EndLemmas.{above-keeps, above-next}
use Rattle.row_copies.proofs.PathLemmas.{may-add, next-name}
use Rattle.row_copies.proofs.StepLemmas.{steps-join}
use Rattle.row_copies.proofs.CauseLemmas.{ends-then, free-above}
use Rattle.row_copies.proofs.parents.make_parents.Goals as goal

pub loop-k-init : goal.loop-k-init
loop-k-init g c = record {
  path = c.root-path.ensures;
  made = keeps-same (g.C.Clusters.state c.args.clusters.now);
  ready = c.requires.ready;
  steps = Done;
}

pub add_name-requires : goal.add_name-requires
add_name-requires g c =
    may-add [] c.args.to.now c.loop-k.path c.loop-k.k c.name.result.now c.len.ensures.rule (omega (arith, c.loop-k-test.true, c.saturating_sub-k-end.ensures, c.len.ensures.len)) c.loop-k.invariant.path c.name.ensures

pub returns-in-Err-make_missing-clause-err : goal.returns-in-Err-make_missing-clause-err
returns-in-Err-make_missing-clause-err g c = record {
  count = c.loop-k.k;
  few = omega (arith, c.loop-k-test.true, c.saturating_sub-k-end.ensures, c.len.ensures.len);
  made = above-keeps c.loop-k.k c.args.to.now (g.C.Clusters.state c.args.clusters.now) (g.C.Clusters.state c.loop-k.clusters) (g.C.Clusters.state c.make_missing.new.clusters) c.loop-k.invariant.made c.in-Err-make_missing.ensures.err;
}

pub returns-in-Err-make_missing-clause-steps : goal.returns-in-Err-make_missing-clause-steps
returns-in-Err-make_missing-clause-steps g c = steps-join g.C.Clusters.follows c.args.clusters.now c.loop-k.clusters c.make_missing.new.clusters c.loop-k.invariant.steps c.make_missing.ensures.steps

pub loop-k-preserved : goal.loop-k-preserved
loop-k-preserved g c =
    let next : c.loop-k.k + 1 ≡ suc c.loop-k.k = omega arith in
    let path = c.in-Ok.ensures ∙ next-name [] c.args.to.now c.loop-k.path c.loop-k.k c.name.result.now (omega (arith, c.loop-k-test.true, c.saturating_sub-k-end.ensures, c.len.ensures.len)) c.loop-k.invariant.path c.name.ensures in
    record {
      path = path;
      made = above-next c.loop-k.k (c.loop-k.k + 1) c.args.to.now c.add_name.new.path (g.C.Clusters.state c.args.clusters.now) (g.C.Clusters.state c.loop-k.clusters) (g.C.Clusters.state c.make_missing.new.clusters) next path c.loop-k.invariant.made c.in-Ok-make_missing.ensures.ok;
      ready = c.in-Ok-make_missing.ensures.ready;
      steps = steps-join g.C.Clusters.follows c.args.clusters.now c.loop-k.clusters c.make_missing.new.clusters c.loop-k.invariant.steps c.make_missing.ensures.steps;
    }

pub returns-in-Err-make_missing-clause-ends : goal.returns-in-Err-make_missing-clause-ends
returns-in-Err-make_missing-clause-ends g c =
    ends-then g.C.Clusters.state g.C.Clusters.follows g.C.Clusters.store_fails g.C.Clusters.vault_fails g.C.Clusters.refuses c.args.clusters.now c.loop-k.clusters c.make_missing.new.clusters c.in-Err-make_missing.end c.loop-k.invariant.steps (free-above c.loop-k.k c.args.to.now (g.C.Clusters.state c.args.clusters.now) (g.C.Clusters.state c.loop-k.clusters) c.loop-k.invariant.made) c.in-Err-make_missing.ensures.ends
