use Rattle.std.proofs.Common.{◌≡◌, take, vec_len, vec_capacity}
use Rattle.inode_tree.proofs.order.copy.Given as goal

abbrev pub invariant-loop-n : goal.invariant-loop-n
invariant-loop-n l = record { items : l.into.items ≡ take l.n-index l.from; len : vec_len l.into ≡ l.n-index; room : vec_capacity l.into ≡ vec_capacity l.initial.into }
