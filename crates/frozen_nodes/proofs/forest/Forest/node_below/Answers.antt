use Rattle.std.proofs.Common.{◌∙◌, refl, sym, arith}
use Rattle.frozen_nodes.proofs.Walks.{at-end, kid-within, none-further, some-further}
use Rattle.frozen_nodes.proofs.forest.Forest.node_below.Goals as goal

pub loop-k-init : goal.loop-k-init
loop-k-init c = record { within = c.requires; same = refl }

pub loop-k-preserved : goal.loop-k-preserved
loop-k-preserved c = record {
  within = kid-within c.args.self.now.nodes c.invariants.ensures c.loop-k.n c.loop-k.invariant.within c.args.path.now c.loop-k.k (let e = c.len-k-end.ensures.len in let h = c.loop-k-test.true in omega arith) c.name.result.now c.name.ensures c.in-Some.kid c.in-Some.ensures;
  same = c.loop-k.invariant.same ∙ some-further c.args.self.now.nodes c.invariants.ensures c.loop-k.n c.loop-k.invariant.within c.args.path.now c.loop-k.k (let e = c.len-k-end.ensures.len in let h = c.loop-k-test.true in omega arith) c.name.result.now c.name.ensures c.in-Some.kid c.in-Some.ensures;
}

pub returns-in-None : goal.returns-in-None
returns-in-None c = record {
  node = sym (c.loop-k.invariant.same ∙ none-further c.args.self.now.nodes c.invariants.ensures c.loop-k.n c.loop-k.invariant.within c.args.path.now c.loop-k.k (let e = c.len-k-end.ensures.len in let h = c.loop-k-test.true in omega arith) c.name.result.now c.name.ensures c.in-None.ensures);
  within = tt;
}

pub returns : goal.returns
returns c = record {
  node = sym (c.loop-k.invariant.same ∙ at-end c.args.self.now.nodes c.loop-k.n c.args.path.now c.loop-k.k (let e = c.len-k-end.ensures.len in let h = c.loop-k-test.false in omega arith));
  within = c.loop-k.invariant.within;
}
