use Rattle.std.proofs.Common.{◌≡◌, ◌∙◌, ◌<◌, ℕ, List, ap, sym, subst, length}
use Rattle.frozen_nodes.specs.Forest.{AreBelow}
use Rattle.snap_store.specs.Snapshots.{IsSnapshots, Snapshot, SnapState, count_of, frozen, is_among, key_of, put_snapshot, snapshot_named}
use Rattle.snap_store.specs.Stored.{snapshots_of}
use Rattle.snap_store.proofs.FrozenTrees.{stands, tree-frozen}
use Rattle.snap_store.proofs.Kept.{others-put, put-kept}
use Rattle.snap_store.proofs.StoredLemmas.{below-more, free-key, put-taken, rising-keys}
use Rattle.snap_store.proofs.snaps.Snaps.take.Goals as goal

pub take-requires : goal.take-requires
take-requires c = stands c.args.tree.now.rows c.args.dir c.requires.stands

pub put_reserved-requires-clause-free : goal.put_reserved-requires-clause-free
put_reserved-requires-clause-free c =
    (λ i. snapshot_named (c.reserve_place.ensures.taken i) ((c.new-snapshot.ensures ∙ ap (key_of c.args.dir) c.in_ok-name.ensures.name) i).dir ((c.new-snapshot.ensures ∙ ap (key_of c.args.dir) c.in_ok-name.ensures.name) i).name)
    ∙ free-key c.self.inside.forest.nodes c.self.inside.taken.items c.self.inside.roots.items c.args.dir c.args.name.now c.self.invariant.rooted.count
    (ap (λ (s : SnapState). snapshot_named s.table.taken c.args.dir c.args.name.now) c.self.view_is ∙ c.requires.free)

pub invariant_of-self-2 : goal.invariant_of-self-2
invariant_of-self-2 c =
    let is : snapshots_of c.take.new.forest.nodes c.put_reserved.new.taken.items c.put_reserved.new.roots.items ≡ put_snapshot (record { dir = c.args.dir; name = c.args.name.now; rows = frozen c.args.tree.now.rows c.args.dir }) (snapshots_of c.self.inside.forest.nodes c.self.inside.taken.items c.self.inside.roots.items) =
    c.put_reserved.ensures.snapshots c.take.new.forest.nodes
    ∙ put-taken c.self.inside.forest.nodes c.take.new.forest.nodes c.self.inside.taken.items c.reserve_place.new.taken.items c.self.inside.roots.items c.reserve_place.new.roots.items c.new-snapshot.result c.args.dir c.args.name.now c.in_ok-rows.rows.root (frozen c.args.tree.now.rows c.args.dir)
    c.reserve_place.ensures.taken c.reserve_place.ensures.roots (c.new-snapshot.ensures ∙ ap (key_of c.args.dir) c.in_ok-name.ensures.name) c.in_ok-rows.ensures.rows c.take.ensures.others c.self.invariant.rooted.below in
    let kept : IsSnapshots c.self.inside.allowed.items (snapshots_of c.take.new.forest.nodes c.put_reserved.new.taken.items c.put_reserved.new.roots.items) =
    subst (λ (taken : List Snapshot). IsSnapshots c.self.inside.allowed.items taken) (sym is)
    (put-kept c.self.inside.allowed.items (snapshots_of c.self.inside.forest.nodes c.self.inside.taken.items c.self.inside.roots.items) c.self.invariant.snapshots (record { dir = c.args.dir; name = c.args.name.now; rows = frozen c.args.tree.now.rows c.args.dir })
    (ap (λ (s : SnapState). is_among s.table.allowed c.args.dir) c.self.view_is ∙ c.requires.allowed)
    (ap (λ (s : SnapState). snapshot_named s.table.taken c.args.dir c.args.name.now) c.self.view_is ∙ c.requires.free)
    (subst (λ (s : SnapState). count_of s.table.taken c.args.dir < 65536) (sym c.self.view_is) c.requires.room)
    (tree-frozen c.args.tree.now.rows c.args.dir c.rows.ensures.rules c.requires.stands)) in
    record {
      snapshots = kept;
      rooted = record {
        rising = rising-keys c.take.new.forest.nodes c.put_reserved.new.taken.items c.put_reserved.new.roots.items c.put_reserved.ensures.count kept.order;
        count = c.put_reserved.ensures.count;
        below = c.put_reserved.ensures.below (length c.take.new.forest.nodes) c.in_ok-rows.ensures.within
            (subst (λ (roots : List ℕ). AreBelow (length c.take.new.forest.nodes) roots) (sym c.reserve_place.ensures.roots)
            (below-more (length c.self.inside.forest.nodes) (length c.take.new.forest.nodes) c.self.inside.roots.items c.take.ensures.others.most c.self.invariant.rooted.below));
      };
    }

pub returns-clause-ok : goal.returns-clause-ok
returns-clause-ok c =
    ap (λ (taken : List Snapshot). record { allowed = c.self.inside.allowed.items; taken = taken })
    (c.put_reserved.ensures.snapshots c.take.new.forest.nodes
    ∙ put-taken c.self.inside.forest.nodes c.take.new.forest.nodes c.self.inside.taken.items c.reserve_place.new.taken.items c.self.inside.roots.items c.reserve_place.new.roots.items c.new-snapshot.result c.args.dir c.args.name.now c.in_ok-rows.rows.root (frozen c.args.tree.now.rows c.args.dir)
    c.reserve_place.ensures.taken c.reserve_place.ensures.roots (c.new-snapshot.ensures ∙ ap (key_of c.args.dir) c.in_ok-name.ensures.name) c.in_ok-rows.ensures.rows c.take.ensures.others c.self.invariant.rooted.below)
    ∙ ap (λ (s : SnapState). record { allowed = s.table.allowed; taken = put_snapshot (record { dir = c.args.dir; name = c.args.name.now; rows = frozen c.args.tree.now.rows c.args.dir }) s.table.taken }) c.self.view_is

pub returns-clause-others : goal.returns-clause-others
returns-clause-others c = λ d n e.
    ap (λ (taken : List Snapshot). snapshot_named taken d n)
    (c.put_reserved.ensures.snapshots c.take.new.forest.nodes
    ∙ put-taken c.self.inside.forest.nodes c.take.new.forest.nodes c.self.inside.taken.items c.reserve_place.new.taken.items c.self.inside.roots.items c.reserve_place.new.roots.items c.new-snapshot.result c.args.dir c.args.name.now c.in_ok-rows.rows.root (frozen c.args.tree.now.rows c.args.dir)
    c.reserve_place.ensures.taken c.reserve_place.ensures.roots (c.new-snapshot.ensures ∙ ap (key_of c.args.dir) c.in_ok-name.ensures.name) c.in_ok-rows.ensures.rows c.take.ensures.others c.self.invariant.rooted.below)
    ∙ others-put (snapshots_of c.self.inside.forest.nodes c.self.inside.taken.items c.self.inside.roots.items) (record { dir = c.args.dir; name = c.args.name.now; rows = frozen c.args.tree.now.rows c.args.dir }) d n e
    ∙ ap (λ (s : SnapState). snapshot_named s.table.taken d n) c.self.view_is
