use Rattle.std.proofs.Common.{◌≡◌, ◌<◌, ℕ, arith, length, sym, subst}
use Rattle.snap_store.proofs.StoredLemmas.{below-at, root-found, root-none}
use Rattle.snap_store.proofs.order.root_of.Goals as goal

pub returns-in-Some-clause-rows : goal.returns-in-Some-clause-rows
returns-in-Some-clause-rows c = λ nodes. root-found nodes c.args.taken.now.items c.args.roots.now.items c.args.dir c.args.name.now c.in-Some.at c.index.result.now c.requires.count c.in-Some.ensures.index c.in-Some.ensures.within c.index.ensures

pub returns-in-Some-clause-within : goal.returns-in-Some-clause-within
returns-in-Some-clause-within c = λ n below.
    subst (λ (root : ℕ). root < n) (sym c.index.ensures)
    (below-at n c.args.roots.now.items c.in-Some.at c.index.result.now below (let same : length c.args.roots.now.items ≡ length c.args.taken.now.items = c.requires.count in omega (arith, same, c.in-Some.ensures.within)))

pub returns-in-None-clause-rows : goal.returns-in-None-clause-rows
returns-in-None-clause-rows c = λ nodes. root-none nodes c.args.taken.now.items c.args.roots.now.items c.args.dir c.args.name.now c.requires.count c.in-None.ensures.index
