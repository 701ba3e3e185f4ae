use Rattle.std.proofs.Common.{◌∙◌, ℕ, List, sym, subst}
use Rattle.frozen_nodes.specs.Forest.{AreBelow}
use Rattle.snap_store.specs.Stored.{snapshots_of}
use Rattle.snap_store.proofs.StoredLemmas.{below-remove, remove-found, remove-none}
use Rattle.snap_store.proofs.order.remove.Goals as goal

pub returns-in-Some-clause-snapshots : goal.returns-in-Some-clause-snapshots
returns-in-Some-clause-snapshots c = λ nodes.
    (λ i. snapshots_of nodes (c.remove-snapshot.ensures.items i) (c.remove-root.ensures.items i))
    ∙ remove-found nodes c.args.taken.now.items c.args.roots.now.items c.args.dir c.args.name.now c.in-Some.at c.requires.rising c.requires.count c.in-Some.ensures.index c.in-Some.ensures.within

pub returns-in-Some-clause-below : goal.returns-in-Some-clause-below
returns-in-Some-clause-below c = λ n below. subst (λ (roots : List ℕ). AreBelow n roots) (sym c.remove-root.ensures.items) (below-remove n c.args.roots.now.items c.in-Some.at below)

pub returns-in-None-clause-snapshots : goal.returns-in-None-clause-snapshots
returns-in-None-clause-snapshots c = λ nodes. remove-none nodes c.args.taken.now.items c.args.roots.now.items c.args.dir c.args.name.now c.requires.rising c.requires.count c.in-None.ensures.index
