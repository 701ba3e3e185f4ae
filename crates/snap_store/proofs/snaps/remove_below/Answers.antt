use Rattle.std.proofs.Common.{not, rules}
use Rattle.std.proofs.lemmas.Fn.{filter_same}
use Rattle.inode_tree.specs.Below.{at_or_below}
use Rattle.snap_store.proofs.snaps.remove_below.Goals as goal

pub returns : goal.returns
returns c = filter_same _ (λ id. not (at_or_below c.args.tree.now.rows id c.args.path.now)) _ (λ x b g says. search rules) _ _ c.retain.ensures.filtered
