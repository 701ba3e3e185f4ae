use Rattle.std.proofs.Common.{◌∙◌, Some, ap, sym}
use Rattle.inode_tree.specs.declared.rows.Row.{Row}
use Rattle.frozen_nodes.proofs.Walks.{row-none, row-some}
use Rattle.frozen_nodes.proofs.forest.Forest.look.Goals as goal

pub returns-in-Some : goal.returns-in-Some
returns-in-Some c = ap (λ (r : Row). Some r) c.row.ensures ∙ sym (row-some c.args.self.now.nodes c.invariants.ensures c.args.root c.requires c.args.path.now c.in-Some.n c.in-Some.ensures.node)

pub returns-in-None : goal.returns-in-None
returns-in-None c = sym (row-none c.args.self.now.nodes c.invariants.ensures c.args.root c.requires c.args.path.now c.in-None.ensures.node)
