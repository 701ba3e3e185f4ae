use Rattle.std.proofs.Common.{◌∙◌, ◌-◌, ℕ, List, ap, sym, take}
use Rattle.inode_tree.specs.Arena.{rows_of}
use Rattle.name_calls.specs.Paths.{parent}
use Rattle.inode_tree.specs.Rows.{Entry, TreeState, zone_id}
use Rattle.inode_tree.proofs.Asked.{parent-take}
use Rattle.inode_tree.proofs.tree.Tree.zone_of_parent.Goals as goal

pub returns : goal.returns
returns c =
    c.zone_at.ensures
    ∙ ap (zone_id (rows_of c.self.inside.nodes.items c.self.inside.order.items)) (ap (λ (n : ℕ). take n c.args.path.now) (c.saturating_sub-names.ensures ∙ ap (λ (n : ℕ). n - 1) c.len.ensures.len) ∙ sym (parent-take c.args.path.now))
    ∙ ap (λ (rows : List Entry). zone_id rows (parent c.args.path.now)) (ap (λ (s : TreeState). s.rows) c.self.view_is)
