use Rattle.snap_store.specs.Stored.{snapshots_of}
use Rattle.snap_store.proofs.Kept.{kept-allow}
use Rattle.snap_store.proofs.snaps.Snaps.allow.Goals as goal

pub invariant_of-self : goal.invariant_of-self
invariant_of-self c = record {
  snapshots = kept-allow c.self.inside.allowed.items (snapshots_of c.self.inside.forest.nodes c.self.inside.taken.items c.self.inside.roots.items) c.self.invariant.snapshots c.put_id.result c.args.dir c.put_id.new.ids.items c.put_id.ensures.rising c.put_id.ensures.ok c.put_id.ensures.err;
  rooted = c.self.invariant.rooted;
}
