use Rattle.inode_tree.proofs.Runs.{turned-is}
use Rattle.inode_tree.proofs.order.runs.rotate.Goals as goal

pub returns : goal.returns
returns c = turned-is c.args.pieces.now c.rotate_left.new.self c.args.a c.args.b c.args.c c.requires.0 c.requires.1 c.rotate_left.ensures.after
