use Rattle.std.proofs.Common.{ap, arith}
use Rattle.inode_tree.specs.NodeList.{NodeList}
use Rattle.inode_tree.proofs.Joins.{links-length}
use Rattle.inode_tree.proofs.nodes.Nodes.len.Goals as goal

pub returns : goal.returns
returns c = let l = c.len.ensures in let e = links-length c.self.inside.links.items c.self.inside.rows.items c.args.self.now.items (ap (λ (s : NodeList). s.items) c.self.view_is) c.self.invariant in omega arith
