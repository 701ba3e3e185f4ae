use Rattle.std.proofs.Common.{◌∙◌, List, ap, arith}
use Rattle.std.specs.Option.{option_map}
use Rattle.inode_tree.specs.Rows.{Entry, entry_of, is_dir}
use Rattle.inode_tree.proofs.Lasts.{free-same}
use Rattle.inode_tree.specs.Rows.{TreeState}
use Rattle.inode_tree.proofs.tree.Tree.set_edek.Goals as goal

pub set-requires-clause-same : goal.set-requires-clause-same
set-requires-clause-same c = ap (λ (rows : List Entry). option_map (λ (e : Entry). is_dir e.row.kind) (entry_of rows c.args.id)) (ap (λ (s : TreeState). s.rows) c.self.view_is) ∙ c.requires

pub invariant_of-self : goal.invariant_of-self
invariant_of-self c = (
  record {
    tree = c.set.ensures.tree;
    free = free-same c.self.inside.nodes.items c.set.new.nodes.items c.self.inside.order.items c.self.inside.free.items c.set.ensures.length c.self.invariant.0.free;
    capacity = let a = c.self.invariant.0.capacity in let e = c.set.ensures.length in omega arith;
  },
  c.self.invariant.1,
)
