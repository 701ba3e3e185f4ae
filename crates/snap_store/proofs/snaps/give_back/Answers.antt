use Rattle.snap_store.proofs.StoredLemmas.{below-moved, moved-count, same-moved}
use Rattle.snap_store.proofs.snaps.give_back.Goals as goal

pub returns-in-Ok-clause-snapshots : goal.returns-in-Ok-clause-snapshots
returns-in-Ok-clause-snapshots c = λ keys. same-moved c.args.forest.now.nodes c.keep.new.self.nodes keys c.args.roots.now.items c.keep.new.roots.items c.in-Ok.ensures.ok

pub returns-in-Ok-clause-count : goal.returns-in-Ok-clause-count
returns-in-Ok-clause-count c = moved-count c.args.forest.now.nodes c.keep.new.self.nodes c.args.roots.now.items c.keep.new.roots.items c.in-Ok.ensures.ok

pub returns-in-Ok-clause-below : goal.returns-in-Ok-clause-below
returns-in-Ok-clause-below c = below-moved c.args.forest.now.nodes c.keep.new.self.nodes c.args.roots.now.items c.keep.new.roots.items c.in-Ok.ensures.ok
