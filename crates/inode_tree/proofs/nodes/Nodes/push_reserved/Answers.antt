use Rattle.std.proofs.Common.{ap}
use Rattle.inode_tree.specs.NodeList.{NodeList}
use Rattle.inode_tree.proofs.Joins.{pushed}
use Rattle.inode_tree.proofs.nodes.Nodes.push_reserved.Goals as goal

pub returns : goal.returns
returns c = record { items = pushed c.self.inside.links.items c.self.inside.rows.items c.args.self.now.items (ap (λ (s : NodeList). s.items) c.self.view_is) c.self.invariant c.push_reserved.new.self.items c.push_reserved-2.new.self.items c.args.node c.push_reserved.ensures.items c.push_reserved-2.ensures.items }
