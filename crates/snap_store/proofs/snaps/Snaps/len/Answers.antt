use Rattle.std.proofs.Common.{arith, length, ap}
use Rattle.snap_store.specs.Snapshots.{SnapState}
use Rattle.snap_store.proofs.StoredLemmas.{length-same}
use Rattle.snap_store.proofs.snaps.Snaps.len.Goals as goal

pub returns : goal.returns
returns c =
    let count = length-same c.self.inside.forest.nodes c.self.inside.taken.items c.self.inside.roots.items c.self.invariant.rooted.count in
    let table = ap (λ (s : SnapState). length s.table.taken) c.self.view_is in
    let len = c.len.ensures in
    omega (arith, count, table, len)
