use Rattle.std.proofs.Common.{not, rules}
use Rattle.std.proofs.lemmas.Fn.{filter_same}
use Rattle.inode_tree.specs.Below.{at_or_below}
use Rattle.zone_table.specs.declared.statuses.StatusRow.{StatusRow}
use Rattle.zone_table.proofs.statuses.remove_below.Goals as goal

pub returns : goal.returns
returns c = filter_same _ (λ (row : StatusRow). not (at_or_below c.args.tree.now.rows row.zone c.args.path.now)) _ (λ x b g says. search rules) _ _ c.retain.ensures.filtered
