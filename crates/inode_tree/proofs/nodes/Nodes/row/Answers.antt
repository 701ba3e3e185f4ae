use Rattle.std.proofs.Common.{ap, arith}
use Rattle.inode_tree.specs.NodeList.{NodeList}
use Rattle.inode_tree.proofs.Joins.{row-is, rows-below}
use Rattle.inode_tree.proofs.nodes.Nodes.row.Goals as goal

pub index-requires : goal.index-requires
index-requires c = let b = rows-below c.self.inside.links.items c.self.inside.rows.items c.args.self.now.items (ap (λ (s : NodeList). s.items) c.self.view_is) c.self.invariant c.args.n c.requires in omega arith

pub returns : goal.returns
returns c = row-is c.self.inside.links.items c.self.inside.rows.items c.args.self.now.items (ap (λ (s : NodeList). s.items) c.self.view_is) c.self.invariant c.args.n c.index.result.now c.requires c.index.ensures
