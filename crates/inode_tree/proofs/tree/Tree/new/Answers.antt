use Rattle.std.proofs.Common.{[], arith, subst, sym, ◌∙◌, ◌≡◌}
use Rattle.inode_tree.specs.Arena.{IsFree}
use Rattle.inode_tree.proofs.tree.Tree.new.Goals as goal

pub invariant_of-result : goal.invariant_of-result
invariant_of-result c = (
  record {
    tree = c.first.ensures.tree;
    free = subst (IsFree c.first.new.nodes.items c.first.new.order.items) (sym none) c.first.ensures.free;
    capacity = let one = c.first.ensures.one in let ok = c.in_ok-reserve_root.ensures.ok.3 in omega arith;
  },
  c.new.ensures.bytes,
)
  where
    none : c.reserve_root.new.free.items ≡ []
    none = c.reserve_root.ensures.free ∙ c.new-free.ensures.items
