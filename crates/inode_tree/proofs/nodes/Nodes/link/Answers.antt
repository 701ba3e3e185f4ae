use Rattle.std.proofs.Common.{ap, arith}
use Rattle.inode_tree.specs.NodeList.{NodeList}
use Rattle.inode_tree.proofs.Joins.{link-is, links-below}
use Rattle.inode_tree.proofs.nodes.Nodes.link.Goals as goal

pub index-requires : goal.index-requires
index-requires c = let b = links-below c.self.inside.links.items c.self.inside.rows.items c.args.self.now.items (ap (λ (s : NodeList). s.items) c.self.view_is) c.self.invariant c.args.n c.requires in omega arith

pub returns : goal.returns
returns c = link-is c.self.inside.links.items c.self.inside.rows.items c.args.self.now.items (ap (λ (s : NodeList). s.items) c.self.view_is) c.self.invariant c.args.n c.index.result.now c.requires c.index.ensures
