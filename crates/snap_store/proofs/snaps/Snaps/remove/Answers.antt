use Rattle.std.proofs.Common.{◌≡◌, ◌∙◌, List, ap, sym, subst}
use Rattle.snap_store.specs.Snapshots.{IsSnapshots, Snapshot, SnapState, snapshot_named, without_snapshot}
use Rattle.snap_store.specs.Stored.{snapshots_of}
use Rattle.snap_store.proofs.Kept.{kept-remove, others-remove}
use Rattle.snap_store.proofs.StoredLemmas.{rising-keys}
use Rattle.snap_store.proofs.snaps.Snaps.remove.Goals as goal

pub give_back-self-inside-requires : goal.give_back-self-inside-requires
give_back-self-inside-requires c = c.remove-rows.ensures.below _ c.self.invariant.rooted.below

pub invariant_of-self : goal.invariant_of-self
invariant_of-self c =
    let is : snapshots_of c.give_back-self-inside.new.forest.nodes c.remove-rows.new.taken.items c.give_back-self-inside.new.roots.items ≡ without_snapshot (snapshots_of c.self.inside.forest.nodes c.self.inside.taken.items c.self.inside.roots.items) c.args.dir c.args.name.now =
    c.give_back-self-inside.ensures.snapshots c.remove-rows.new.taken.items ∙ c.remove-rows.ensures.snapshots c.self.inside.forest.nodes in
    let kept : IsSnapshots c.self.inside.allowed.items (snapshots_of c.give_back-self-inside.new.forest.nodes c.remove-rows.new.taken.items c.give_back-self-inside.new.roots.items) =
    subst (λ (taken : List Snapshot). IsSnapshots c.self.inside.allowed.items taken) (sym is)
    (kept-remove c.self.inside.allowed.items (snapshots_of c.self.inside.forest.nodes c.self.inside.taken.items c.self.inside.roots.items) c.self.invariant.snapshots c.args.dir c.args.name.now) in
    record {
      snapshots = kept;
      rooted = record {
        rising = rising-keys c.give_back-self-inside.new.forest.nodes c.remove-rows.new.taken.items c.give_back-self-inside.new.roots.items (c.give_back-self-inside.ensures.count ∙ c.remove-rows.ensures.count) kept.order;
        count = c.give_back-self-inside.ensures.count ∙ c.remove-rows.ensures.count;
        below = c.give_back-self-inside.ensures.below;
      };
    }

pub returns-clause-others : goal.returns-clause-others
returns-clause-others c = λ d n e.
    ap (λ (taken : List Snapshot). snapshot_named taken d n) (c.give_back-self-inside.ensures.snapshots c.remove-rows.new.taken.items ∙ c.remove-rows.ensures.snapshots c.self.inside.forest.nodes)
    ∙ others-remove (snapshots_of c.self.inside.forest.nodes c.self.inside.taken.items c.self.inside.roots.items) c.args.dir c.args.name.now d n e
    ∙ ap (λ (s : SnapState). snapshot_named s.table.taken d n) c.self.view_is
