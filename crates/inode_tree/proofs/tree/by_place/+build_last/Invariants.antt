use Rattle.inode_tree.proofs.tree.by_place.+build_last.Given as goal

abbrev pub decreases-build_last : goal.decreases-build_last
decreases-build_last l = l.count
