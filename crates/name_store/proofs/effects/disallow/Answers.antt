use Rattle.std.proofs.Common.{◌≡◌, subst, sym}
use Rattle.snap_store.specs.Snapshots.{count_of}
use Rattle.name_store.proofs.CauseLemmas.{disallowable}
use Rattle.name_store.proofs.RowLemmas.{no-snapshots}
use Rattle.name_store.proofs.effects.disallow.Goals as goal

pub disallow-requires : goal.disallow-requires
disallow-requires c =
    let free = disallowable c.args.tree.now.rows c.args.snaps.now.table c.args.path.now c.requires in
    subst (λ dir. count_of c.args.snaps.now.table.taken dir ≡ 0) (sym c.id_at.ensures)
    (no-snapshots c.args.tree.now.rows c.args.snaps.now.table.taken c.args.path.now c.rows.ensures.rules free.dir free.none)
