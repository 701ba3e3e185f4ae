use Rattle.std.proofs.Common.{◌∙◌, List, ap, arith, take, take_all}
use Rattle.inode_tree.specs.Arena.{rank, rows_of}
use Rattle.inode_tree.specs.Rows.{Entry}
use Rattle.inode_tree.proofs.Ranks.{length-rows, rank-most}
use Rattle.inode_tree.specs.Rows.{TreeState}
use Rattle.inode_tree.proofs.tree.Tree.place.Goals as goal

pub overflow_cast-result : goal.overflow_cast-result
overflow_cast-result c =
    let most = rank-most (rows_of c.self.inside.nodes.items c.self.inside.order.items) (take c.len.result c.args.path.now) in
    let all = length-rows c.self.inside.nodes.items c.self.inside.order.items in
    let e = c.place.ensures in
    let full = c.self.invariant.0.tree.full in
    let few = c.self.invariant.0.tree.few in
    omega arith

pub returns : goal.returns
returns c =
    c.place.ensures
    ∙ ap (rank (rows_of c.self.inside.nodes.items c.self.inside.order.items)) (take_all c.len.result c.args.path.now (let e = c.len.ensures.len in omega arith))
    ∙ ap (λ (rows : List Entry). rank rows c.args.path.now) (ap (λ (s : TreeState). s.rows) c.self.view_is)
