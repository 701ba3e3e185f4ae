use Rattle.std.proofs.Common.{◌∙◌, ℕ, List, ap, sym, subst}
use Rattle.inode_tree.specs.Below.{at_or_below}
use Rattle.snap_store.specs.Snapshots.{IsSnapshots, SnapState, holds_snapshot}
use Rattle.snap_store.specs.Stored.{snapshots_of}
use Rattle.snap_store.proofs.Kept.{kept-without}
use Rattle.snap_store.proofs.snaps.Snaps.disallow_below.Goals as goal

pub invariant_of-self : goal.invariant_of-self
invariant_of-self c = record {
  snapshots = subst (λ (ids : List ℕ). IsSnapshots ids (snapshots_of c.self.inside.forest.nodes c.self.inside.taken.items c.self.inside.roots.items)) (sym c.remove_below.ensures)
      (kept-without c.self.inside.allowed.items (snapshots_of c.self.inside.forest.nodes c.self.inside.taken.items c.self.inside.roots.items) c.self.invariant.snapshots (λ id. at_or_below c.args.tree.now.rows id c.args.path.now)
      (ap (λ (s : SnapState). holds_snapshot c.args.tree.now.rows s.table.taken c.args.path.now) c.self.view_is ∙ c.requires));
  rooted = c.self.invariant.rooted;
}
