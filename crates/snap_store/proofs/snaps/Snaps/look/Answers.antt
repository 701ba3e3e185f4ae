use Rattle.std.proofs.Common.{◌∙◌, Some, List, ap}
use Rattle.std.specs.Prelude.{is_some}
use Rattle.inode_tree.specs.Rows.{Entry, row_at}
use Rattle.snap_store.specs.Snapshots.{SnapState, rows_in, snapshot_named}
use Rattle.snap_store.specs.Stored.{snapshots_of}
use Rattle.snap_store.proofs.Kept.{named-look}
use Rattle.snap_store.proofs.StoredLemmas.{rows-in}
use Rattle.snap_store.proofs.snaps.Snaps.look.Goals as goal

pub look-requires : goal.look-requires
look-requires c = c.in-Some.ensures.within _ c.self.invariant.rooted.below

pub returns-in-Some-clause-own : goal.returns-in-Some-clause-own
returns-in-Some-clause-own c = λ e.
    ap is_some (c.look.ensures ∙ ap (λ (rows : List Entry). row_at rows c.args.below.now)
    (rows-in c.self.inside.forest.nodes (snapshots_of c.self.inside.forest.nodes c.self.inside.taken.items c.self.inside.roots.items) c.args.dir c.args.name.now (Some c.in-Some.root) (c.in-Some.ensures.rows c.self.inside.forest.nodes))
    ∙ ap (row_at (rows_in (snapshots_of c.self.inside.forest.nodes c.self.inside.taken.items c.self.inside.roots.items) c.args.dir c.args.name.now)) e)
    ∙ named-look (snapshots_of c.self.inside.forest.nodes c.self.inside.taken.items c.self.inside.roots.items) c.args.dir c.args.name.now c.self.invariant.snapshots.rooted
    ∙ ap (λ (s : SnapState). is_some (snapshot_named s.table.taken c.args.dir c.args.name.now)) c.self.view_is

pub returns-in-Some-clause-row : goal.returns-in-Some-clause-row
returns-in-Some-clause-row c =
    c.look.ensures ∙ ap (λ (rows : List Entry). row_at rows c.args.below.now)
    (rows-in c.self.inside.forest.nodes (snapshots_of c.self.inside.forest.nodes c.self.inside.taken.items c.self.inside.roots.items) c.args.dir c.args.name.now (Some c.in-Some.root) (c.in-Some.ensures.rows c.self.inside.forest.nodes)
    ∙ ap (λ (s : SnapState). rows_in s.table.taken c.args.dir c.args.name.now) c.self.view_is)
