use Rattle.std.proofs.Common.{◌∙◌, Option, ap, subst, sym}
use Rattle.std.specs.Prelude.{IsTrue}
use Rattle.std.specs.Option.{option_map}
use Rattle.inode_tree.specs.Rows.{Entry, is_dir_at}
use Rattle.snap_store.specs.Snapshots.{is_directory}
use Rattle.name_store.proofs.CauseLemmas.{snappable}
use Rattle.name_store.proofs.RowLemmas.{directory-entry}
use Rattle.name_store.proofs.effects.snap.Goals as goal

pub take-requires-clause-stands : goal.take-requires-clause-stands
take-requires-clause-stands c =
    let at = directory-entry c.args.tree.now.rows c.args.path.now c.rows.ensures.rules (snappable c.args.tree.now.rows c.args.snaps.now.table c.args.path.now c.args.name.now c.requires).dir in
    subst (λ dir. IsTrue (is_directory c.args.tree.now.rows dir)) (sym c.id_at.ensures) (ap (λ (o : Option Entry). is_dir_at (option_map (λ e. e.row) o)) at.1 ∙ at.3)
