use Rattle.std.proofs.Common.{ap, arith}
use Rattle.inode_tree.specs.NodeList.{NodeList}
use Rattle.inode_tree.proofs.Joins.{kind-written, rows-below}
use Rattle.inode_tree.proofs.nodes.Nodes.set_kind.Goals as goal

pub index_mut-row-requires : goal.index_mut-row-requires
index_mut-row-requires c = let b = rows-below c.self.inside.links.items c.self.inside.rows.items c.args.self.now.items (ap (λ (s : NodeList). s.items) c.self.view_is) c.self.invariant c.args.n c.requires in omega arith

pub returns : goal.returns
returns c = kind-written c.self.inside.links.items c.self.inside.rows.items c.args.self.now.items (ap (λ (s : NodeList). s.items) c.self.view_is) c.self.invariant c.args.n c.index_mut-row.result.now c.args.kind c.requires c.index_mut-row.ensures.value
