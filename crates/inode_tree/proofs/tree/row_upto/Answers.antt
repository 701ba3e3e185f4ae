use Rattle.std.proofs.Common.{arith, sym, take}
use Rattle.inode_tree.proofs.Trees.{number-below, row-found, row-missing}
use Rattle.inode_tree.proofs.tree.row_upto.Goals as goal

pub row-requires : goal.row-requires
row-requires c = let h = number-below c.args.nodes.now.items c.args.order.now.items c.requires.tree.0 (take c.args.upto c.args.path.now) c.in-Some.n c.requires.tree.1 (sym c.in-Some.ensures) in omega arith

pub returns-in-Some : goal.returns-in-Some
returns-in-Some c =
    row-found c.args.nodes.now.items c.args.order.now.items (take c.args.upto c.args.path.now) c.in-Some.n c.row.result.now (sym c.in-Some.ensures)
    c.row.ensures

pub returns-in-None : goal.returns-in-None
returns-in-None c = row-missing c.args.nodes.now.items c.args.order.now.items (take c.args.upto c.args.path.now) (sym c.in-None.ensures)
