use Rattle.std.proofs.Common.{◌∙◌, ℕ, List, Some, ap, sym}
use Rattle.std.specs.Prelude.{slice_get}
use Rattle.snap_store.specs.Snapshots.{SnapState, names_of}
use Rattle.snap_store.proofs.Counts.{in-order, name-inside, name-past}
use Rattle.snap_store.proofs.StoredLemmas.{names-same}
use Rattle.snap_store.proofs.snaps.Snaps.name_at.Goals as goal

pub overflow_sub-end : goal.overflow_sub-end
overflow_sub-end c = in-order c.self.inside.taken.items c.args.dir c.first_of-first.result c.end_of-end.result c.first_of-first.ensures.most c.end_of-end.ensures.most c.first_of-first.ensures.parted c.end_of-end.ensures.parted

pub returns-then-at-end : goal.returns-then-at-end
returns-then-at-end c =
    ap (λ (x : List ℕ). Some x) c.name.ensures
    ∙ sym (name-inside c.self.inside.taken.items c.args.dir c.first_of-first.result c.end_of-end.result c.first_of-first.ensures.most c.end_of-end.ensures.most c.first_of-first.ensures.parted c.end_of-end.ensures.parted c.args.at c.index.result.now c.if-at-end.true c.index.ensures)
    ∙ ap (λ (names : List (List ℕ)). slice_get names c.args.at)
    (names-same c.self.inside.forest.nodes c.self.inside.taken.items c.self.inside.roots.items c.args.dir c.self.invariant.rooted.count ∙ ap (λ (s : SnapState). names_of s.table.taken c.args.dir) c.self.view_is)

pub returns-else-at-end : goal.returns-else-at-end
returns-else-at-end c =
    sym (name-past c.self.inside.taken.items c.args.dir c.first_of-first.result c.end_of-end.result c.first_of-first.ensures.most c.end_of-end.ensures.most c.first_of-first.ensures.parted c.end_of-end.ensures.parted c.args.at c.if-at-end.false)
    ∙ ap (λ (names : List (List ℕ)). slice_get names c.args.at)
    (names-same c.self.inside.forest.nodes c.self.inside.taken.items c.self.inside.roots.items c.args.dir c.self.invariant.rooted.count ∙ ap (λ (s : SnapState). names_of s.table.taken c.args.dir) c.self.view_is)
