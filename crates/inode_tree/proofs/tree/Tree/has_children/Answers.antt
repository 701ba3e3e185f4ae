use Rattle.std.proofs.Common.{◌∙◌, List, ap, sym, arith, take_all}
use Rattle.std.specs.HashMap.{get}
use Rattle.std.specs.Bool.{nat_eq}
use Rattle.inode_tree.specs.Arena.{number_of}
use Rattle.inode_tree.specs.Rows.{Entry, has_children}
use Rattle.inode_tree.proofs.Children.{children-none}
use Rattle.inode_tree.specs.Rows.{TreeState}
use Rattle.inode_tree.proofs.tree.Tree.has_children.Goals as goal

pub returns-in-None : goal.returns-in-None
returns-in-None c =
    sym (ap (λ (rows : List Entry). has_children rows c.args.path.now) (sym (ap (λ (s : TreeState). s.rows) c.self.view_is))
    ∙ children-none c.self.inside.nodes.items c.self.inside.order.items (get nat_eq c.self.inside.places) c.self.invariant.0.tree c.args.path.now
    (ap (number_of c.self.inside.nodes.items c.self.inside.order.items) (sym (take_all c.len.result c.args.path.now (let e = c.len.ensures.len in omega arith))) ∙ sym c.in-None.ensures))
