use Rattle.std.proofs.Common.{◌≡◌, ◌<◌, ◌-◌, ◌+◌, length, get_or, take, vec_capacity}
use Rattle.inode_tree.specs.Listed.{starts_of}
use Rattle.inode_tree.proofs.order.renumber.Given as goal

abbrev pub invariant-write : goal.invariant-write
invariant-write l = record {
  within : l.j < length l.pieces.items;
  from : l.from ≡ get_or (starts_of 0 l.pieces.items) l.j 0;
  same : length l.starts.items ≡ length l.pieces.items;
  done : take (l.j + 1) l.starts.items ≡ take (l.j + 1) (starts_of 0 l.pieces.items);
  room : vec_capacity l.starts ≡ vec_capacity l.initial.starts;
}

abbrev pub decreases-write : goal.decreases-write
decreases-write l = length l.pieces.items - l.j
