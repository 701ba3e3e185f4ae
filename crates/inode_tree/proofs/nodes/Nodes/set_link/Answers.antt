use Rattle.std.proofs.Common.{ap, arith}
use Rattle.inode_tree.specs.NodeList.{NodeList}
use Rattle.inode_tree.proofs.Joins.{link-written, links-below}
use Rattle.inode_tree.proofs.nodes.Nodes.set_link.Goals as goal

pub index_mut-requires : goal.index_mut-requires
index_mut-requires c = let b = links-below c.self.inside.links.items c.self.inside.rows.items c.args.self.now.items (ap (λ (s : NodeList). s.items) c.self.view_is) c.self.invariant c.args.n c.requires in omega arith

pub returns : goal.returns
returns c = link-written c.self.inside.links.items c.self.inside.rows.items c.args.self.now.items (ap (λ (s : NodeList). s.items) c.self.view_is) c.self.invariant c.args.n (record { parent = c.args.parent; name = c.args.name })
