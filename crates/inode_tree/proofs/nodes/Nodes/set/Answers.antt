use Rattle.std.proofs.Common.{ap, arith}
use Rattle.inode_tree.specs.NodeList.{NodeList}
use Rattle.inode_tree.proofs.Joins.{links-below, rows-below, written}
use Rattle.inode_tree.proofs.nodes.Nodes.set.Goals as goal

pub index_mut-requires : goal.index_mut-requires
index_mut-requires c = let b = links-below c.self.inside.links.items c.self.inside.rows.items c.args.self.now.items (ap (λ (s : NodeList). s.items) c.self.view_is) c.self.invariant c.args.n c.requires in omega arith

pub index_mut-requires-2 : goal.index_mut-requires-2
index_mut-requires-2 c = let b = rows-below c.self.inside.links.items c.self.inside.rows.items c.args.self.now.items (ap (λ (s : NodeList). s.items) c.self.view_is) c.self.invariant c.args.n c.requires in omega arith

pub returns : goal.returns
returns c = written c.self.inside.links.items c.self.inside.rows.items c.args.self.now.items (ap (λ (s : NodeList). s.items) c.self.view_is) c.self.invariant c.args.n c.args.node
