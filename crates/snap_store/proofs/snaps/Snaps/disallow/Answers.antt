use Rattle.std.proofs.Common.{◌∙◌, ℕ, List, ap, sym, subst}
use Rattle.snap_store.specs.Snapshots.{IsSnapshots, SnapState, count_of}
use Rattle.snap_store.specs.Stored.{snapshots_of}
use Rattle.snap_store.proofs.Kept.{kept-disallow}
use Rattle.snap_store.proofs.snaps.Snaps.disallow.Goals as goal

pub invariant_of-self : goal.invariant_of-self
invariant_of-self c = record {
  snapshots = subst (λ (ids : List ℕ). IsSnapshots ids (snapshots_of c.self.inside.forest.nodes c.self.inside.taken.items c.self.inside.roots.items)) (sym c.remove_id.ensures)
      (kept-disallow c.self.inside.allowed.items (snapshots_of c.self.inside.forest.nodes c.self.inside.taken.items c.self.inside.roots.items) c.self.invariant.snapshots c.args.dir
      (ap (λ (s : SnapState). count_of s.table.taken c.args.dir) c.self.view_is ∙ c.requires));
  rooted = c.self.invariant.rooted;
}
