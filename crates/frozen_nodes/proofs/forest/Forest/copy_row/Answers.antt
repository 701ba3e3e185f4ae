use Rattle.std.proofs.Common.{ap, arith}
use Rattle.frozen_nodes.specs.Forest.{FrozenNode}
use Rattle.frozen_nodes.proofs.forest.Forest.copy_row.Goals as goal

pub share_reserved-requires-clause-room : goal.share_reserved-requires-clause-room
share_reserved-requires-clause-room c = record { nodes_fit = c.requires.room.nodes_fit; kids_fit = c.requires.room.kids_fit; bytes_fit = omega (arith, c.requires.short, c.requires.room.bytes_fit) }

pub returns-clause-name : goal.returns-clause-name
returns-clause-name c = ap (λ (n : FrozenNode). n.name) c.share_reserved.ensures.node

pub returns-clause-spent : goal.returns-clause-spent
returns-clause-spent c = record {
  nodes_less = c.share_reserved.ensures.spent.nodes_less;
  kids_less = c.share_reserved.ensures.spent.kids_less;
  bytes_less = omega (arith, c.requires.short, c.share_reserved.ensures.spent.bytes_less);
}
