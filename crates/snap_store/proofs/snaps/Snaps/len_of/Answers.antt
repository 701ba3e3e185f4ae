use Rattle.std.proofs.Common.{◌∙◌, arith, ap, sym}
use Rattle.snap_store.specs.Snapshots.{SnapState, count_of}
use Rattle.snap_store.proofs.Counts.{counted, in-order}
use Rattle.snap_store.proofs.StoredLemmas.{count-same}
use Rattle.snap_store.proofs.snaps.Snaps.len_of.Goals as goal

pub overflow_sub-result : goal.overflow_sub-result
overflow_sub-result c = in-order c.self.inside.taken.items c.args.dir c.first_of.result c.end_of.result c.first_of.ensures.most c.end_of.ensures.most c.first_of.ensures.parted c.end_of.ensures.parted

pub overflow_cast-result : goal.overflow_cast-result
overflow_cast-result c =
    let e = counted c.self.inside.taken.items c.args.dir c.first_of.result c.end_of.result c.first_of.ensures.most c.end_of.ensures.most c.first_of.ensures.parted c.end_of.ensures.parted in
    let same = count-same c.self.inside.forest.nodes c.self.inside.taken.items c.self.inside.roots.items c.args.dir c.self.invariant.rooted.count in
    let few = c.self.invariant.snapshots.few c.args.dir in
    omega arith

pub returns : goal.returns
returns c =
    sym (counted c.self.inside.taken.items c.args.dir c.first_of.result c.end_of.result c.first_of.ensures.most c.end_of.ensures.most c.first_of.ensures.parted c.end_of.ensures.parted)
    ∙ count-same c.self.inside.forest.nodes c.self.inside.taken.items c.self.inside.roots.items c.args.dir c.self.invariant.rooted.count
    ∙ ap (λ (s : SnapState). count_of s.table.taken c.args.dir) c.self.view_is
