use Rattle.std.proofs.Common.{ap, ◌∙◌}
use Rattle.inode_tree.specs.Arena.{path_of}
use Rattle.inode_tree.specs.declared.rows.Link.{Link}
use Rattle.inode_tree.proofs.NearLemmas.{near-above}
use Rattle.inode_tree.proofs.ZoneLemmas.{below-live}
use Rattle.inode_tree.proofs.near.near_at.Goals as goal

pub returns-clause-near : goal.returns-clause-near
returns-clause-near c =
    let below = below-live c.args.nodes.now.items c.args.order.now.items c.requires.tree.0 c.args.n c.requires.tree.1 c.requires.live in
    record {
      path = c.requires.path;
      parent = ap (λ (x : Link). path_of c.args.nodes.now.items x.parent) c.link.ensures
          ∙ near-above c.args.nodes.now.items c.args.order.now.items c.requires.tree.0 c.args.n c.args.depth c.args.path.now c.requires.tree.1 c.requires.live c.requires.path c.requires.depth;
      depth = c.requires.depth;
    }
