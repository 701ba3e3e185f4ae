use Rattle.std.proofs.Common.{◌∙◌, ap}
use Rattle.snap_store.specs.Snapshots.{SnapState, holds_snapshot}
use Rattle.snap_store.proofs.StoredLemmas.{holds-same}
use Rattle.snap_store.proofs.snaps.Snaps.holds.Goals as goal

pub returns : goal.returns
returns c =
    c.holds.ensures
    ∙ holds-same c.self.inside.forest.nodes c.args.tree.now.rows c.self.inside.taken.items c.self.inside.roots.items c.args.path.now c.self.invariant.rooted.count
    ∙ ap (λ (s : SnapState). holds_snapshot c.args.tree.now.rows s.table.taken c.args.path.now) c.self.view_is
