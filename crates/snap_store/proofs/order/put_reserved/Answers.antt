use Rattle.std.proofs.Common.{◌≡◌, ◌∙◌, ℕ, List, sym, subst}
use Rattle.std.specs.List.{insert}
use Rattle.std.specs.Vec.{vec_capacity, vec_len}
use Rattle.frozen_nodes.specs.Forest.{AreBelow}
use Rattle.snap_store.specs.Snapshots.{key_of, snapshot_cmp}
use Rattle.snap_store.specs.Stored.{snapshots_of}
use Rattle.snap_store.proofs.OrderLemmas.{Parted}
use Rattle.snap_store.proofs.StoredLemmas.{below-insert, put-both, sure}
use Rattle.snap_store.proofs.Taken.{snapshot-total}
use Rattle.snap_store.proofs.order.put_reserved.Goals as goal

pub returns-clause-snapshots : goal.returns-clause-snapshots
returns-clause-snapshots c = λ nodes.
    let taken : c.insert.new.self.items ≡ insert c.args.taken.now.items c.place-at.result c.args.snapshot =
    sure c.insert.result c.insert.new.self.items (insert c.args.taken.now.items c.place-at.result c.args.snapshot) c.args.taken.now.items (vec_capacity c.args.taken.now) (vec_len c.args.taken.now) c.insert.ensures.items c.insert.ensures.full c.requires.room.0 in
    let roots : c.insert-2.new.self.items ≡ insert c.args.roots.now.items c.place-at.result c.args.root =
    sure c.insert-2.result c.insert-2.new.self.items (insert c.args.roots.now.items c.place-at.result c.args.root) c.args.roots.now.items (vec_capacity c.args.roots.now) (vec_len c.args.roots.now) c.insert-2.ensures.items c.insert-2.ensures.full c.requires.room.1 in
    (λ i. snapshots_of nodes (taken i) (roots i))
    ∙ put-both nodes c.args.taken.now.items c.args.roots.now.items c.place-at.result c.args.snapshot c.args.root c.requires.count c.place-at.ensures.most c.requires.free
    (subst (λ (dir : ℕ). Parted snapshot_cmp snapshot-total (key_of dir c.args.snapshot.name) c.args.taken.now.items c.place-at.result) c.dir.ensures
    (subst (λ (name : List ℕ). Parted snapshot_cmp snapshot-total (key_of c.dir.result name) c.args.taken.now.items c.place-at.result) c.name.ensures c.place-at.ensures.parted))

pub returns-clause-below : goal.returns-clause-below
returns-clause-below c = λ n lt below.
    subst (λ (roots : List ℕ). AreBelow n roots)
    (sym (sure c.insert-2.result c.insert-2.new.self.items (insert c.args.roots.now.items c.place-at.result c.args.root) c.args.roots.now.items (vec_capacity c.args.roots.now) (vec_len c.args.roots.now) c.insert-2.ensures.items c.insert-2.ensures.full c.requires.room.1))
    (below-insert n c.args.roots.now.items c.place-at.result c.args.root lt below)
