use Rattle.std.proofs.Common.{◌∙◌, List, ap, arith, take_all}
use Rattle.inode_tree.specs.Arena.{rows_of}
use Rattle.inode_tree.specs.Rows.{Entry, row_at}
use Rattle.inode_tree.specs.Rows.{TreeState}
use Rattle.inode_tree.proofs.tree.Tree.find.Goals as goal

pub returns : goal.returns
returns c =
    c.row_upto.ensures
    ∙ ap (row_at (rows_of c.self.inside.nodes.items c.self.inside.order.items)) (take_all c.len.result c.args.path.now (let e = c.len.ensures.len in omega arith))
    ∙ ap (λ (rows : List Entry). row_at rows c.args.path.now) (ap (λ (s : TreeState). s.rows) c.self.view_is)
