use Rattle.std.proofs.Common.{◌≡◌, ◌∙◌, ◌<◌, ℕ, Some, arith, length, ap, sym, subst}
use Rattle.std.specs.Prelude.{slice_get}
use Rattle.frozen_nodes.specs.Forest.{rows_from}
use Rattle.snap_store.specs.Snapshots.{SnapState}
use Rattle.snap_store.proofs.StoredLemmas.{at-same, below-at, length-same}
use Rattle.snap_store.proofs.snaps.Snaps.nth.Goals as goal

pub index-taken-requires : goal.index-taken-requires
index-taken-requires c =
    let count = length-same c.self.inside.forest.nodes c.self.inside.taken.items c.self.inside.roots.items c.self.invariant.rooted.count in
    let table = ap (λ (s : SnapState). length s.table.taken) c.self.view_is in
    let lt = c.requires in
    omega (arith, count, table, lt)

pub index-requires : goal.index-requires
index-requires c =
    let count = length-same c.self.inside.forest.nodes c.self.inside.taken.items c.self.inside.roots.items c.self.invariant.rooted.count in
    let same = c.self.invariant.rooted.count in
    let table = ap (λ (s : SnapState). length s.table.taken) c.self.view_is in
    let lt = c.requires in
    omega (arith, count, same, table, lt)

pub returns-clause-snapshot : goal.returns-clause-snapshot
returns-clause-snapshot c =
    let count = length-same c.self.inside.forest.nodes c.self.inside.taken.items c.self.inside.roots.items c.self.invariant.rooted.count in
    let table = ap (λ (s : SnapState). length s.table.taken) c.self.view_is in
    let lt = c.requires in
    let within : c.args.at < length c.self.inside.taken.items = omega (arith, count, table, lt) in
    sym (ap (λ (s : SnapState). slice_get s.table.taken c.args.at) c.self.view_is)
    ∙ at-same c.self.inside.forest.nodes c.self.inside.taken.items c.self.inside.roots.items c.args.at c.index-taken.result.now c.index.result.now c.self.invariant.rooted.count within c.index-taken.ensures c.index.ensures
    ∙ (λ i. Some (record { dir = sym c.dir.ensures i; name = sym c.name.ensures i; rows = rows_from c.self.inside.forest.nodes c.index.result.now }))

pub returns-clause-within : goal.returns-clause-within
returns-clause-within c =
    let count = length-same c.self.inside.forest.nodes c.self.inside.taken.items c.self.inside.roots.items c.self.invariant.rooted.count in
    let same = c.self.invariant.rooted.count in
    let table = ap (λ (s : SnapState). length s.table.taken) c.self.view_is in
    let lt = c.requires in
    let within : c.args.at < length c.self.inside.roots.items = omega (arith, count, same, table, lt) in
    subst (λ (root : ℕ). root < length c.self.inside.forest.nodes) (sym c.index.ensures)
    (below-at (length c.self.inside.forest.nodes) c.self.inside.roots.items c.args.at c.index.result.now c.self.invariant.rooted.below within)
