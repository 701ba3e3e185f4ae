use Rattle.inode_tree.proofs.tree.lengths.+last_size.Given as goal

abbrev pub decreases-last_size : goal.decreases-last_size
decreases-last_size l = l.count
