use Rattle.std.proofs.Common.{◌∙◌, ap}
use Rattle.std.specs.Prelude.{is_some}
use Rattle.snap_store.specs.Snapshots.{SnapState, snapshot_named}
use Rattle.snap_store.proofs.StoredLemmas.{has-same}
use Rattle.snap_store.proofs.snaps.Snaps.has.Goals as goal

pub returns : goal.returns
returns c =
    c.is_some.ensures ∙ ap is_some c.find.ensures.index
    ∙ has-same c.self.inside.forest.nodes c.self.inside.taken.items c.self.inside.roots.items c.args.dir c.args.name.now c.self.invariant.rooted.count
    ∙ ap (λ (s : SnapState). is_some (snapshot_named s.table.taken c.args.dir c.args.name.now)) c.self.view_is
