use Rattle.std.proofs.Common.{◌≡◌, ◌≤◌, length, take}
use Rattle.name_calls.specs.Paths.{names_text}
use Rattle.frozen_nodes.specs.Copies.{path_at}
use Rattle.name_images.proofs.rows.text_len.Given as goal

abbrev pub invariant-loop-k : goal.invariant-loop-k
invariant-loop-k l = record {
  sum : l.len ≡ length (names_text (take l.k (path_at l.tree.rows l.place)));
  most : l.len ≤ 8000;
}
