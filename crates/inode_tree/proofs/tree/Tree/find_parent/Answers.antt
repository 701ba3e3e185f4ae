use Rattle.std.proofs.Common.{◌∙◌, ◌-◌, ℕ, List, ap, sym, take}
use Rattle.inode_tree.specs.Arena.{rows_of}
use Rattle.name_calls.specs.Paths.{parent}
use Rattle.inode_tree.specs.Rows.{Entry, row_at}
use Rattle.inode_tree.proofs.Asked.{parent-take}
use Rattle.inode_tree.specs.Rows.{TreeState}
use Rattle.inode_tree.proofs.tree.Tree.find_parent.Goals as goal

pub returns : goal.returns
returns c =
    c.row_upto.ensures
    ∙ ap (row_at (rows_of c.self.inside.nodes.items c.self.inside.order.items)) (ap (λ (n : ℕ). take n c.args.path.now) (c.saturating_sub-upto.ensures ∙ ap (λ (n : ℕ). n - 1) c.len.ensures.len) ∙ sym (parent-take c.args.path.now))
    ∙ ap (λ (rows : List Entry). row_at rows (parent c.args.path.now)) (ap (λ (s : TreeState). s.rows) c.self.view_is)
