use Rattle.std.proofs.Common.{List, length, sym, ap, ◌∙◌, subst}
use Rattle.std.specs.HashMap.{get}
use Rattle.std.specs.Bool.{nat_eq}
use Rattle.inode_tree.specs.Rows.{Entry, IsRows}
use Rattle.inode_tree.proofs.Ranks.{length-rows}
use Rattle.inode_tree.proofs.RowFacts.{is-rows}
use Rattle.inode_tree.specs.Rows.{TreeState}
use Rattle.inode_tree.proofs.tree.Tree.rows.Goals as goal

pub returns-clause-count : goal.returns-clause-count
returns-clause-count c = c.len.ensures ∙ sym (length-rows c.self.inside.nodes.items c.self.inside.order.items) ∙ ap (λ (k : List Entry). length k) (ap (λ (s : TreeState). s.rows) c.self.view_is)

pub returns-clause-rules : goal.returns-clause-rules
returns-clause-rules c = subst IsRows (ap (λ (s : TreeState). s.rows) c.self.view_is) (is-rows c.self.inside.nodes.items c.self.inside.order.items (get nat_eq c.self.inside.places) c.self.invariant.0.tree)
